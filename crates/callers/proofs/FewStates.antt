-- What a minimal automaton gives to its callers.
use Rattle.std.proofs.Common.{◌≡◌, ◌≢◌, ℕ, ◌<◌, ◌≤◌, ◌==◌, List, ◌++◌, map, Option, Some, None, Result, Ok, Err, inl, inr, refl, sym, ap, subst, ◌∙◌, arith}
use Rattle.std.proofs.Common.{eqb-true, eq-eqb}
use Rattle.std.specs.Prelude.{IfOk, MatchOption}
use Rattle.std.specs.List.{range_with_len}
use Rattle.std.proofs.lemmas.Bool.{cases_eq}
use Rattle.std.proofs.lemmas.Bool.Decides.{nat_tests}
use Rattle.std.proofs.lemmas.List.FromFn.{length-map-range_with_len}
use Rattle.std.proofs.lemmas.List.Elements.{All-append}
use Rattle.za_alpha.specs.Words.{IsWord}
use Rattle.za_alpha.specs.Search.{least}
use Rattle.za_alpha.proofs.Least.{least-true, least-le}
use Rattle.za_alpha.proofs.Members.{has-range-below}
use Rattle.za_dfa.specs.Automata.{Automaton, IsTotal, walk, is_accepted}
use Rattle.za_dfa.proofs.Diamonds.{walk-append, walk-below}
use Rattle.za_order.proofs.Sets.{any-here, has-map}
use Rattle.za_order.proofs.Least.{pigeonhole}
use Rattle.za_min.specs.Minimal.{IsMinimal, IsNumberedBy, IsLeastApart, HaveSameLanguage, word_at}

-- numbers below n that a map keeps apart are no more than its values
map-apart-le : (f : ℕ → ℕ) (n k : ℕ) → ((q : ℕ) → q < n → f q < k) → ((q r : ℕ) → q < n → r < n → f q ≡ f r → q ≡ r) → n ≤ k
map-apart-le f n k below apart =
    let back : ℕ → ℕ = λ x. least (λ q. f q == x) n in
    let range : List ℕ = range_with_len 0 k in
    let long = length-map-range_with_len back 0 k in
    let found : (q : ℕ) → q < n → back (f q) ≡ q = λ q l.
    let le = least-le (λ r. f r == f q) n q (eq-eqb (f q) (f q) refl) in
    let at = least-true (λ r. f r == f q) n (omega arith) in
    apart (back (f q)) q (omega arith) l (eqb-true (f (back (f q))) (f q) at) in
    let most = pigeonhole n (map back range) (λ q l.
    has-map back range q ∙ any-here (λ x. back x == q) range (f q) (let b = below q l in has-range-below k (f q) ∙ grind (arith, nat_tests))
    (eq-eqb (back (f q)) q (found q l))) in
    omega arith

-- where a word goes on after another
is_accepted-append : (d : Automaton) (u v : List ℕ) → is_accepted d (u ++ v) ≡ d.accepts (walk d.step (walk d.step d.start u) v)
is_accepted-append d u v = ap d.accepts (walk-append d.step d.start u v)

-- an automaton of the language of a minimal one has as many states at least
pub minimal-least : (d e : Automaton) (words : List (List ℕ)) → IsMinimal d → IsNumberedBy d words → IsTotal e → d.letters ≡ e.letters → HaveSameLanguage e d →
    d.states ≤ e.states
minimal-least d e words minimal numbered total letters same =
    let state : ℕ → ℕ = λ q. walk e.step e.start (word_at words q) in
    let word : (q : ℕ) → q < d.states → IsWord e.letters (word_at words q) =
    λ q l. subst (λ m. IsWord m (word_at words q)) letters (numbered.access q l).holds.word in
    let accepts : (q : ℕ) (v : List ℕ) → q < d.states → IsWord e.letters v → d.accepts (walk d.step q v) ≡ e.accepts (walk e.step (state q) v) = λ q v l hv.
    ap (λ x. d.accepts (walk d.step x v)) (sym (numbered.access q l).holds.there) ∙ sym (is_accepted-append d (word_at words q) v)
    ∙ sym (same (word_at words q ++ v) (All-append (λ a. a < e.letters) (word_at words q) v (word q l) hv)) ∙ is_accepted-append e (word_at words q) v in
    map-apart-le state d.states e.states (λ q l. walk-below e total e.start (word_at words q) total.starts (word q l))
    (λ q r ql rl s.
    elim (cases_eq q r) [
      | inl alike ↦ alike
      | inr differ ↦
          let told = minimal.told q r ql rl differ in
          let hv = subst (λ m. IsWord m told.0) letters told.1.word in
          absurd (told.1.apart (accepts q told.0 ql hv ∙ ap (λ x. e.accepts (walk e.step x told.0)) s ∙ sym (accepts r told.0 rl hv)))
    ])

-- a word that tells apart the states of two words makes a difference after them; where the states are one, none does
pub difference-is : {E : Type 0} (d m : Automaton) (u v : List ℕ) (q r : ℕ) (found : Result (Option (List ℕ)) E) → m.letters ≡ d.letters →
    HaveSameLanguage m d →
    IsWord d.letters u → IsWord d.letters v → q ≡ walk m.step m.start u → r ≡ walk m.step m.start v →
    IfOk found (λ word. MatchOption word (q ≡ r) (λ x. (q ≢ r) × IsLeastApart m q r x)) →
    IfOk found (λ word. MatchOption word ((x : List ℕ) → IsWord d.letters x → is_accepted d (u ++ x) ≡ is_accepted d (v ++ x))
    (λ x. is_accepted d (u ++ x) ≢ is_accepted d (v ++ x)))
difference-is {E = E} d m u v q r found letters same hu hv eq er told = by_cases found told
  where
    after : (w x : List ℕ) (s : ℕ) → IsWord d.letters w → IsWord d.letters x → s ≡ walk m.step m.start w → is_accepted d (w ++ x) ≡ m.accepts (walk m.step s x)
    after w x s hw hx es =
        sym (same (w ++ x) (subst (λ k. IsWord k (w ++ x)) (sym letters) (All-append (λ a. a < d.letters) w x hw hx))) ∙ is_accepted-append m w x
        ∙ ap (λ z. m.accepts (walk m.step z x)) (sym es)

    by_cases : (found : Result (Option (List ℕ)) E) → IfOk found (λ word. MatchOption word (q ≡ r) (λ x. (q ≢ r) × IsLeastApart m q r x)) →
        IfOk found (λ word. MatchOption word ((x : List ℕ) → IsWord d.letters x → is_accepted d (u ++ x) ≡ is_accepted d (v ++ x))
        (λ x. is_accepted d (u ++ x) ≢ is_accepted d (v ++ x)))
    by_cases (Err e) told = told
    by_cases (Ok None) told = λ x hx. after u x q hu hx eq ∙ ap (λ z. m.accepts (walk m.step z x)) told ∙ sym (after v x r hv hx er)
    by_cases (Ok (Some x)) told =
        let hx = subst (λ k. IsWord k x) letters told.1.holds.word in
        λ e. told.1.holds.apart (sym (after u x q hu hx eq) ∙ e ∙ after v x r hv hx er)
