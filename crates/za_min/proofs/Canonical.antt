-- Two minimal DFAs of one language, both numbered by their access words, are equal.
use Rattle.std.proofs.Common.{◌≡◌, ℕ, zero, suc, ◌+◌, ◌*◌, ◌/◌, ◌%◌, ◌<◌, ◌≤◌, Bool, true, false, ◌&&◌, cond, inl, inr, List, [], ◌∷◌, ◌++◌, length, get_or}
use Rattle.std.proofs.Common.{refl, sym, ap, subst, ◌∙◌, arith}
use Rattle.std.specs.Prelude.{nat_lt}
use Rattle.std.proofs.lemmas.Bool.{cases_eq, cases_lt}
use Rattle.std.proofs.lemmas.Bool.Decides.{nat_tests}
use Rattle.std.proofs.lemmas.List.{ext_get_or}
use Rattle.std.proofs.lemmas.List.Elements.{All-append, All-nil, All-push}
use Rattle.za_alpha.specs.Alphabet.{DistributedAlphabet}
use Rattle.za_alpha.specs.Words.{IsWord}
use Rattle.za_dfa.specs.Automata.{Automaton, IsTotal, walk, is_accepted}
use Rattle.za_dfa.specs.Tables.{CompleteDfa, IsComplete, automaton_of, step_of, target_at}
use Rattle.za_dfa.proofs.Diamonds.{walk-append, walk-below}
use Rattle.za_dfa.proofs.GridLemmas.{row_of_cell}
use Rattle.za_dfa.proofs.TableLemmas.{total_of_complete}
use Rattle.za_min.specs.Shortlex.{comes_before, IsLeastWord}
use Rattle.za_min.specs.Minimal.{word_at, LeadsTo, IsMinimal, IsNumberedBy, HaveSameLanguage}
use Rattle.za_min.specs.Laws.{MinimalDfasAreOne}
use Rattle.za_min.proofs.Order.{least_word-unique, before-trans, before-not-self}

-- a minimal automaton that is numbered by these words
record IsCanonical (d : Automaton) (words : List (List ℕ)) : Type 0 where
  total : IsTotal d
  minimal : IsMinimal d
  numbered : IsNumberedBy d words

-- both have the same letters, and accept the same words
record AreSame (d e : Automaton) : Type 0 where
  letters : d.letters ≡ e.letters
  language : HaveSameLanguage d e

record AreOne (d e : Automaton) : Type 0 where
  states : d.states ≡ e.states
  start : d.start ≡ e.start
  steps : (q a : ℕ) → q < d.states → a < d.letters → d.step q a ≡ e.step q a
  accepts : (q : ℕ) → q < d.states → d.accepts q ≡ e.accepts q

turned : (d e : Automaton) → AreSame d e → AreSame e d
turned d e s = record { letters = sym s.letters; language = λ w h. sym (s.language w (subst (λ n. IsWord n w) (sym s.letters) h)) }

-- the words that lead to q in d are those that lead to r in e
record IsTwin (d e : Automaton) (q r : ℕ) : Type 0 where
  there : (w : List ℕ) → IsWord d.letters w → walk d.step d.start w ≡ q → walk e.step e.start w ≡ r
  back : (w : List ℕ) → IsWord d.letters w → walk e.step e.start w ≡ r → walk d.step d.start w ≡ q

twin-turned : (d e : Automaton) (q r : ℕ) → AreSame d e → IsTwin d e q r → IsTwin e d r q
twin-turned d e q r s t = record {
  there = λ w h. t.back w (subst (λ n. IsWord n w) (sym s.letters) h);
  back =
      λ w h. t.there w (subst (λ n. IsWord n w) (sym s.letters) h);
}

-- words that lead to one state in d lead to one in e
meet : (d e : Automaton) (ws : List (List ℕ)) → IsCanonical e ws → AreSame d e → (u v : List ℕ) → IsWord d.letters u → IsWord d.letters v →
    walk d.step d.start u ≡ walk d.step d.start v → walk e.step e.start u ≡ walk e.step e.start v
meet d e ws ce s u v hu hv x =
    let eu : IsWord e.letters u = subst (λ n. IsWord n u) s.letters hu in
    let ev : IsWord e.letters v = subst (λ n. IsWord n v) s.letters hv in
    let p = walk e.step e.start u in
    let q = walk e.step e.start v in
    elim (cases_eq p q) [
      | inl y ↦ y
      | inr n ↦ absurd (
          let w = ce.minimal.told p q (walk-below e ce.total e.start u ce.total.starts eu) (walk-below e ce.total e.start v ce.total.starts ev) n in
          let hw : IsWord d.letters w.0 = subst (λ n. IsWord n w.0) (sym s.letters) w.1.word in
          let a = s.language (u ++ w.0) (All-append (λ c. c < d.letters) u w.0 hu hw) in
          let b = s.language (v ++ w.0) (All-append (λ c. c < d.letters) v w.0 hv hw) in
          let m : is_accepted d (u ++ w.0) ≡ is_accepted d (v ++ w.0) =
          ap d.accepts (walk-append d.step d.start u w.0 ∙ ap (λ z. walk d.step z w.0) x ∙ sym (walk-append d.step d.start v w.0)) in
          w.1.apart (sym (ap e.accepts (walk-append e.step e.start u w.0)) ∙ sym a ∙ m ∙ b ∙ ap e.accepts (walk-append e.step e.start v w.0)))
    ]

module _ (d e : Automaton) (vs ws : List (List ℕ)) (cd : IsCanonical d vs) (ce : IsCanonical e ws) (s : AreSame d e) where
  twin-found : (q : ℕ) → q < d.states → (r : ℕ) × (r < e.states) × IsTwin d e q r
  twin-found q ql =
      let w = cd.minimal.reached q ql in
      let ew : IsWord e.letters w.0 = subst (λ n. IsWord n w.0) s.letters w.1.word in (
        walk e.step e.start w.0,
        walk-below e ce.total e.start w.0 ce.total.starts ew,
        record {
          there = λ u h x. meet d e ws ce s u w.0 h w.1.word (x ∙ sym w.1.there);
          back = λ u h x. meet e d vs cd (turned d e s) u w.0 (subst (λ n. IsWord n u) s.letters h) ew x ∙ w.1.there;
        },
      )

  -- twins have one access word
  twin-access : (q r : ℕ) → q < d.states → r < e.states → IsTwin d e q r → word_at ws r ≡ word_at vs q
  twin-access q r ql rl t =
      let lu = cd.numbered.access q ql in
      let mine : IsLeastWord (LeadsTo e r) (word_at vs q) = record {
        holds = record { word = subst (λ n. IsWord n (word_at vs q)) s.letters lu.holds.word; there = t.there (word_at vs q) lu.holds.word lu.holds.there };
        least = λ x p. let hx : IsWord d.letters x = subst (λ n. IsWord n x) (sym s.letters) p.word in
            lu.least x (record { word = hx; there = t.back x hx p.there });
      } in
      least_word-unique (LeadsTo e r) (word_at ws r) (word_at vs q) (ce.numbered.access r rl) mine

  twin-order : (q q' r r' : ℕ) → q < q' → q' < d.states → r < e.states → r' < e.states → IsTwin d e q r → IsTwin d e q' r' → r < r'
  twin-order q q' r r' qq q'l rl r'l t t' =
      let ql : q < d.states = omega arith in
      let a = twin-access q r ql rl t in
      let a' = twin-access q' r' q'l r'l t' in
      let o = cd.numbered.rising q q' qq q'l in
      elim (cases_lt r r') [
        | inl l ↦ l
        | inr ge ↦ absurd (elim (cases_eq r' r) [
          | inl same ↦
              let lu = cd.numbered.access q ql in
              let at = lu.holds.there in
              let at' = t'.back (word_at vs q) lu.holds.word (t.there (word_at vs q) lu.holds.word at ∙ sym same) in omega arith
          | inr ne ↦
              let back = ce.numbered.rising r' r (omega arith) rl in
              let back' : comes_before (word_at vs q') (word_at vs q) ≡ true =
              subst (λ x. comes_before x (word_at vs q) ≡ true) a' (subst (λ x. comes_before (word_at ws r') x ≡ true) a back) in
              before-not-self (word_at vs q) (before-trans (word_at vs q) (word_at vs q') (word_at vs q) o back')
        ])
      ]

  twin-le : (q r : ℕ) → q < d.states → r < e.states → IsTwin d e q r → q ≤ r
  twin-le zero r ql rl t = omega arith
  twin-le (suc q) r ql rl t =
      let f = twin-found q (omega arith) in
      let i = twin-le q f.0 (omega arith) f.1 f.2 in
      let o = twin-order q (suc q) f.0 r (omega arith) ql f.1 rl f.2 t in omega arith

-- a state is its own twin
twin-own : (d e : Automaton) (vs ws : List (List ℕ)) → IsCanonical d vs → IsCanonical e ws → AreSame d e → (q : ℕ) → q < d.states → (q < e.states)
    × IsTwin d e q q
twin-own d e vs ws cd ce s q ql =
    let f = twin-found d e vs ws cd ce s q ql in
    let a = twin-le d e vs ws cd ce s q f.0 ql f.1 f.2 in
    let b = twin-le e d ws vs ce cd (turned d e s) f.0 q f.1 ql (twin-turned d e q f.0 s f.2) in
    let same : f.0 ≡ q = omega arith in
    (subst (λ x. x < e.states) same f.1, subst (λ x. IsTwin d e q x) same f.2)

states-le : (d e : Automaton) (vs ws : List (List ℕ)) → IsCanonical d vs → IsCanonical e ws → AreSame d e → d.states ≤ e.states
states-le d e vs ws cd ce s =
    elim (cases_lt e.states d.states) [
      | inl l ↦ let t = twin-own d e vs ws cd ce s e.states l in absurd (let a = t.0 in omega arith)
      | inr ge ↦ ge
    ]

canonical : (d e : Automaton) (vs ws : List (List ℕ)) → IsCanonical d vs → IsCanonical e ws → AreSame d e → AreOne d e
canonical d e vs ws cd ce s =
    let le = states-le d e vs ws cd ce s in
    let ge = states-le e d ws vs ce cd (turned d e s) in
    record {
      states = omega arith;
      start = sym ((twin-own d e vs ws cd ce s d.start cd.total.starts).1.there [] (All-nil (λ c. c < d.letters)) refl);
      steps = λ q a ql al.
          let w = cd.minimal.reached q ql in
          let tq = twin-own d e vs ws cd ce s q ql in
          let tn = twin-own d e vs ws cd ce s (d.step q a) (cd.total.steps q a ql al) in
          let hw = All-push (λ c. c < d.letters) w.0 a w.1.word al in
          let x = tn.1.there (w.0 ++ a ∷ []) hw (walk-append d.step d.start w.0 (a ∷ []) ∙ ap (λ z. d.step z a) w.1.there) in
          sym x ∙ walk-append e.step e.start w.0 (a ∷ []) ∙ ap (λ z. e.step z a) (tq.1.there w.0 w.1.word w.1.there);
      accepts = λ q ql.
          let w = cd.minimal.reached q ql in
          let tq = twin-own d e vs ws cd ce s q ql in
          ap d.accepts (sym w.1.there) ∙ s.language w.0 w.1.word ∙ ap e.accepts (tq.1.there w.0 w.1.word w.1.there);
    }

-- the words too
canonical-words : (d e : Automaton) (vs ws : List (List ℕ)) → IsCanonical d vs → IsCanonical e ws → AreSame d e → vs ≡ ws
canonical-words d e vs ws cd ce s =
    let one = canonical d e vs ws cd ce s in
    let states = one.states in
    let each = cd.numbered.one_each in
    let each' = ce.numbered.one_each in
    ext_get_or [] vs ws (omega arith) (λ k l. let kd : k < d.states = omega arith in let t = twin-own d e vs ws cd ce s k kd in
    sym (twin-access d e vs ws cd ce s k k kd t.0 t.1))

-- a step that is a target
step-is-target : (d : CompleteDfa) (q a : ℕ) → q < d.states → a < length d.alphabet.letters → step_of d q a ≡ target_at d q a
step-is-target d q a ql al =
    let here : (nat_lt q d.states && nat_lt a (length d.alphabet.letters)) ≡ true = grind (arith, nat_tests) in
    ap (λ known. cond known (target_at d q a) q) here

-- tables that are one automaton are equal
tables-one : (d e : CompleteDfa) → IsComplete d → IsComplete e → d.alphabet ≡ e.alphabet → AreOne (automaton_of d) (automaton_of e) → d ≡ e
tables-one d e hd he same one =
    let m = length d.alphabet.letters in
    let letters : m ≡ length e.alphabet.letters = ap (λ x. length x.letters) same in
    let states = one.states in
    let al = hd.accepting_length in
    let al' = he.accepting_length in
    let tl = hd.targets_length in
    let tl' : length e.targets ≡ d.states * m = he.targets_length ∙ ap (λ n. n * length e.alphabet.letters) (sym states)
    ∙ ap (λ n. d.states * n) (sym letters) in
    let accepting : d.accepting ≡ e.accepting = ext_get_or false d.accepting e.accepting (omega arith) (λ q l. one.accepts q (omega arith)) in
    let targets : d.targets ≡ e.targets =
    ext_get_or 0 d.targets e.targets (tl ∙ sym tl') (λ i l.
    let at = row_of_cell i d.states m (omega arith) in
    let q = i / m in
    let a = i % m in
    let ql : q < d.states = at.0 in
    let am : a < m = at.1 in
    let qe : q < e.states = omega arith in
    let ae : a < length e.alphabet.letters = omega arith in
    let cell : q * m + a ≡ i = cell-of i m in
    let step = one.steps q a ql am in
    let left : get_or d.targets i 0 ≡ target_at d q a = ap (λ k. get_or d.targets k 0) (sym cell) in
    let right : target_at e q a ≡ get_or e.targets i 0 = ap (λ n. get_or e.targets (q * n + a) 0) (sym letters) ∙ ap (λ k. get_or e.targets k 0) cell in
    left ∙ sym (step-is-target d q a ql am) ∙ step ∙ step-is-target e q a qe ae ∙ right) in
    ap (λ x. table x d.states d.start d.accepting d.targets) same
    ∙ ap (λ x. table e.alphabet x d.start d.accepting d.targets) states
    ∙ ap (λ x. table e.alphabet e.states x d.accepting d.targets) one.start
    ∙ ap (λ x. table e.alphabet e.states e.start x d.targets) accepting
    ∙ ap (λ x. table e.alphabet e.states e.start e.accepting x) targets
  where
    table : DistributedAlphabet → ℕ → ℕ → List Bool → List ℕ → CompleteDfa
    table alphabet states start accepting targets = record { alphabet = alphabet; states = states; start = start; accepting = accepting; targets = targets }

    cell-of : (i m : ℕ) → i / m * m + i % m ≡ i
    cell-of i m = omega arith

pub minimal_dfas_are_one : MinimalDfasAreOne
minimal_dfas_are_one m n hm hn cm cn alphabet language =
    let d = automaton_of m.dfa in
    let e = automaton_of n.dfa in
    let cd : IsCanonical d m.access = record { total = total_of_complete m.dfa hm; minimal = cm.minimal; numbered = cm.numbered } in
    let ce : IsCanonical e n.access = record { total = total_of_complete n.dfa hn; minimal = cn.minimal; numbered = cn.numbered } in
    let s : AreSame d e = record { letters = ap (λ x. length x.letters) alphabet; language = language } in
    let dfa = tables-one m.dfa n.dfa hm hn alphabet (canonical d e m.access n.access cd ce s) in
    let words = canonical-words d e m.access n.access cd ce s in
    ap (λ x. record { dfa = x; access = m.access }) dfa ∙ ap (λ x. record { dfa = n.dfa; access = x }) words
