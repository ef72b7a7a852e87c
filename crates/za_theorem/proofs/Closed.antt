-- A trace-closed language of an automaton is the language of one with every diamond.
use Rattle.std.proofs.Common.{◌≡◌, ◌≢◌, ℕ, zero, suc, ◌<◌, Bool, true, false, ◌⊎◌, inl, inr, List, [], ◌∷◌, ◌++◌, if◌then◌else◌, refl, sym, ap, subst, ◌∙◌}
use Rattle.std.proofs.Common.{arith}
use Rattle.std.proofs.lemmas.Bool.{cases_Bool, cases_eq, cond-true, cond-false}
use Rattle.std.proofs.lemmas.List.Elements.{All-head, All-tail, All-cons, All-append}
use Rattle.za_alpha.specs.Words.{independent, IsWord, IsSwap}
use Rattle.za_alpha.proofs.Swaps.{swap-sound}
use Rattle.za_dfa.specs.Automata.{Automaton, IsTotal, walk, is_accepted, IsTraceClosed, HasDiamonds}
use Rattle.za_dfa.proofs.Diamonds.{walk-append}
use Rattle.za_min.specs.Private.Rounds.{rounds, refine, AreClasses}
use Rattle.za_min.specs.Private.Exploring.{merged}
use Rattle.za_min.proofs.RoundSteps.{gap, round-nearer}
use Rattle.za_min.proofs.Merge.{class-own, merged-total, merged-accepts, merged-told}
use Rattle.za_theorem.specs.Laws.{ClosedHasDiamonds}
use Rattle.za_theorem.proofs.Reached.{reach, stable, start-reached, step-reached, reached-by}

-- lists of numbers are equal or not
same-lists : (xs ys : List ℕ) → (xs ≡ ys) ⊎ (xs ≢ ys)
same-lists [] [] = inl refl
same-lists [] (y ∷ ys) = inr (λ e. cc)
same-lists (x ∷ xs) [] = inr (λ e. cc)
same-lists (x ∷ xs) (y ∷ ys) = elim (cases_eq x y) [
  | inr d ↦ inr (λ e. d (let s : x ≡ y = cc in s))
  | inl s ↦ elim (same-lists xs ys) [
    | inl t ↦ inl (ap (λ v. v ∷ xs) s ∙ ap (λ vs. y ∷ vs) t)
    | inr d ↦ inr (λ e. d (let t : xs ≡ ys = cc in t))
  ]
]

-- some round of refinement changes nothing
stable-round : (d : Automaton) (fuel k : ℕ) → gap d.states (rounds d k) < fuel → (k : ℕ) × (refine d (rounds d k) ≡ rounds d k)
stable-round d zero k l = absurd (omega arith)
stable-round d (suc fuel) k l = elim (same-lists (rounds d k) (rounds d (suc k))) [
  | inl e ↦ (k, sym e)
  | inr n ↦ stable-round d fuel (suc k) (let g = round-nearer d k n in omega arith)
]

module _ (loc : ℕ → List ℕ) (d : Automaton) (total : IsTotal d) (closed : IsTraceClosed loc d) (c : List ℕ) (classes : AreClasses d c) where
  abbrev m : Automaton
  m = merged d c

  m-total : IsTotal m
  m-total = merged-total d total c classes

  module _ (k : ℕ) (settled : (q : ℕ) → q < m.states → reach m m-total (suc k) q ≡ reach m m-total k q) where
    abbrev is_reached : ℕ → Bool
    is_reached q = reach m m-total k q

    -- states that are not reached stay as they are
    abbrev kept : Automaton
    kept = record m { step = λ q a. if is_reached q then m.step q a else q }

    step-on : (q a : ℕ) → is_reached q ≡ true → kept.step q a ≡ m.step q a
    step-on q a h = cond-true (is_reached q) (m.step q a) q h

    step-off : (q a : ℕ) → is_reached q ≡ false → kept.step q a ≡ q
    step-off q a h = cond-false (is_reached q) (m.step q a) q h

    kept-total : IsTotal kept
    kept-total = record {
      starts = m-total.starts;
      steps = λ q a lq la. elim (cases_Bool (is_reached q)) [
        | inl t ↦ subst (λ v. v < d.states) (sym (step-on q a t)) (m-total.steps q a lq la)
        | inr f ↦ subst (λ v. v < d.states) (sym (step-off q a f)) lq
      ];
    }

    walk-kept : (q : ℕ) (w : List ℕ) → q < d.states → IsWord d.letters w → is_reached q ≡ true → walk kept.step q w ≡ walk m.step q w
    walk-kept q [] lq word h = refl
    walk-kept q (a ∷ w) lq word h =
        let la = All-head (λ b. b < d.letters) a w word in
        ap (λ v. walk kept.step v w) (step-on q a h)
        ∙ walk-kept (m.step q a) w (m-total.steps q a lq la) (All-tail (λ b. b < d.letters) a w word) (step-reached m m-total k q a settled lq la h)

    kept-accepts : (w : List ℕ) → IsWord d.letters w → is_accepted kept w ≡ is_accepted d w
    kept-accepts w word = ap d.accepts (walk-kept m.start w m-total.starts word (start-reached m m-total k)) ∙ merged-accepts d total c classes w word

    -- two independent letters lead to states that no word tells apart, and so to one
    meet : (q a b : ℕ) → q < d.states → a < d.letters → b < d.letters → independent loc a b ≡ true → is_reached q ≡ true →
        m.step (m.step q a) b ≡ m.step (m.step q b) a
    meet q a b lq la lb i h =
        let x : ℕ = m.step (m.step q a) b in
        let y : ℕ = m.step (m.step q b) a in
        let qa = m-total.steps q a lq la in
        let qb = m-total.steps q b lq lb in
        elim (cases_eq x y) [
          | inl e ↦ e
          | inr n ↦ absurd (
              let told = merged-told d total c classes x y (m-total.steps (m.step q a) b qa lb) (m-total.steps (m.step q b) a qb la)
              (class-own d total c classes (d.step (m.step q a) b) (total.steps (m.step q a) b qa lb))
              (class-own d total c classes (d.step (m.step q b) a) (total.steps (m.step q b) a qb la)) n in
              let v : List ℕ = told.0 in
              let r = reached-by m m-total k q h in
              let P : ℕ → Type 0 = λ z. z < d.letters in
              let u : List ℕ = r.0 in
              let hu = All-append P u (a ∷ b ∷ v) r.1 (All-cons P a (b ∷ v) la (All-cons P b v lb told.1.word)) in
              let hv = All-append P u (b ∷ a ∷ v) r.1 (All-cons P b (a ∷ v) lb (All-cons P a v la told.1.word)) in
              let s : IsSwap loc (u ++ a ∷ b ∷ v) (u ++ b ∷ a ∷ v) = record { before = u; left = a; right = b; after = v; apart = i; from = refl; to = refl } in
              let same : is_accepted m (u ++ a ∷ b ∷ v) ≡ is_accepted m (u ++ b ∷ a ∷ v) =
              merged-accepts d total c classes (u ++ a ∷ b ∷ v) hu ∙ closed (u ++ a ∷ b ∷ v) (u ++ b ∷ a ∷ v) hu hv
              (swap-sound loc (u ++ a ∷ b ∷ v) (u ++ b ∷ a ∷ v) s)
              ∙ sym (merged-accepts d total c classes (u ++ b ∷ a ∷ v) hv) in
              let there : (f g : ℕ) → is_accepted m (u ++ f ∷ g ∷ v) ≡ d.accepts (walk m.step (m.step (m.step q f) g) v) = λ f g.
              ap d.accepts (walk-append m.step m.start u (f ∷ g ∷ v)) ∙ ap (λ p. d.accepts (walk m.step p (f ∷ g ∷ v))) r.2 in
              told.1.apart (sym (there a b) ∙ same ∙ there b a))
        ]

    kept-diamonds : HasDiamonds loc kept
    kept-diamonds q a b lq la lb i = elim (cases_Bool (is_reached q)) [
      | inl t ↦
          ap (λ v. kept.step v b) (step-on q a t) ∙ step-on (m.step q a) b (step-reached m m-total k q a settled lq la t)
          ∙ meet q a b lq la lb i t
          ∙ sym (ap (λ v. kept.step v a) (step-on q b t) ∙ step-on (m.step q b) a (step-reached m m-total k q b settled lq lb t))
      | inr f ↦
          ap (λ v. kept.step v b) (step-off q a f) ∙ step-off q b f
          ∙ sym (ap (λ v. kept.step v a) (step-off q b f) ∙ step-off q a f)
    ]

pub closed_has_diamonds : ClosedHasDiamonds
closed_has_diamonds loc d total closed =
    let r = stable-round d (suc (gap d.states (rounds d 0))) 0 (omega arith) in
    let c : List ℕ = rounds d r.0 in
    let classes : AreClasses d c = record { round = r.0; is = refl; stable = r.1 } in
    let s = stable (merged d c) (m-total loc d total closed c classes) in (
      kept loc d total closed c classes s.0 s.1,
      record {
        same_letters = refl;
        total = kept-total loc d total closed c classes s.0 s.1;
        words = kept-accepts loc d total closed c classes s.0 s.1;
      },
      kept-diamonds loc d total closed c classes s.0 s.1,
    )
