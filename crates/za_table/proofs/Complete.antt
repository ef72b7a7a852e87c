-- A letter whose processes have all arrived at it.
use Rattle.std.proofs.Common.{◌≡◌, ℕ, ◌&&◌, ◌==◌, not, true, false, Bool, List, [], ◌∷◌, refl, ap, sym, ◌∙◌, ◌↔◌, eq-eqb, inl, inr}
use Rattle.std.specs.List.{list_all}
use Rattle.std.proofs.lemmas.Bool.{cases_Bool, or_left, and_from, and_parts}
use Rattle.za_alpha.specs.Words.{has}
use Rattle.za_script.proofs.Lists.{all-at, all-fails}

pub all-not : (test : ℕ → Bool) (ps : List ℕ) (p : ℕ) → has ps p ≡ true → test p ≡ false → list_all test ps ≡ false
all-not test ps p h f = elim (cases_Bool (list_all test ps)) [
  | inl t ↦ absurd (let z : true ≡ false = sym (all-at test ps p t h) ∙ f in cc)
  | inr n ↦ n
]

not_true : (b : Bool) → not b ≡ true → b ≡ false
not_true true h = absurd (let z : false ≡ true = h in cc)
not_true false h = refl

-- nobody is missing exactly if all wait
pub none-missing : (waits : ℕ → Bool) (ps missing : List ℕ) → ((p : ℕ) → has missing p ≡ (has ps p && not (waits p))) →
    ((missing ≡ []) ↔ (list_all waits ps ≡ true))
none-missing waits ps missing h = (
  λ e. elim (cases_Bool (list_all waits ps)) [
    | inl t ↦ t
    | inr f ↦ absurd (
        let w = all-fails waits ps f in
        let n : not (waits w.0) ≡ true = ap not w.2 in
        let k : false ≡ true = ap (λ (xs : List ℕ). has xs w.0) (sym e) ∙ h w.0 ∙ and_from (has ps w.0) (not (waits w.0)) w.1 n in cc)
  ],
  λ t. empty missing (λ p m.
      let b = and_parts (has ps p) (not (waits p)) (sym (h p) ∙ m) in
      let k : true ≡ false = sym (all-at waits ps p t b.0) ∙ not_true (waits p) b.1 in cc),
)
  where
    empty : (xs : List ℕ) → ((p : ℕ) → has xs p ≡ true → ⊥) → xs ≡ []
    empty [] n = refl
    empty (x ∷ xs) n = absurd (n x (or_left (x == x) (has xs x) (eq-eqb x x refl)))

-- one process more is looked at
pub more-missing : (ps : List ℕ) (waits : ℕ → Bool) (p : ℕ) → (has ps p && not (waits p)) ≡ false → has ps p ≡ true → waits p ≡ true
more-missing ps waits p h m = elim (cases_Bool (waits p)) [
  | inl t ↦ t
  | inr f ↦ absurd (let k : true ≡ false = sym (and_from (has ps p) (not (waits p)) m (ap not f)) ∙ h in cc)
]
