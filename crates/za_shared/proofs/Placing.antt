-- Where the local state of a process stands among those of a set.
use Rattle.std.proofs.Common.{◌≡◌, ◌↔◌, ℕ, zero, suc, ◌+◌, ◌-◌, ◌<◌, ◌≤◌, ◌==◌, Bool, true, false, List, [], ◌∷◌, ◌++◌, Some, length, map, take, sym, ap, ◌∙◌}
use Rattle.std.proofs.Common.{arith, inl, inr, eqb-true, eq-eqb, IsTrue}
use Rattle.std.specs.List.{slice_get}
use Rattle.std.proofs.lemmas.Bool.{cases_Bool}
use Rattle.std.proofs.lemmas.List.{append-nil, append_assoc, take_more, take_all}
use Rattle.std.proofs.lemmas.Option.{slice_get_within, get_or_from_slice_get}
use Rattle.lru.proofs.Pairs.{slice_get-cut}
use Rattle.za_alpha.specs.declared.procs.Procs.{Procs}
use Rattle.za_alpha.specs.Words.{has}
use Rattle.za_alpha.specs.Procs.{members, members_below}
use Rattle.za_order.proofs.Rising.{map-members-in, map-members-out}

module _ {X : Type 0} (f : ℕ → X) (s : Procs) where
  -- a list of the processes below a greater number begins with that of those below a smaller one
  begins : (p k : ℕ) → p + k ≤ 16 → (rest : List X) × (map f (members_below s (p + k)) ≡ map f (members_below s p) ++ rest)
  begins p zero h = ([], ap (λ n. map f (members_below s n)) (let e : p + 0 ≡ p = omega arith in e) ∙ sym (append-nil (map f (members_below s p))))
  begins p (suc k) h =
      let r = begins p k (omega arith) in
      let n : ℕ = p + k in
      let e : p + suc k ≡ n + 1 = omega arith in
      let l : n < 16 = omega arith in
      elim (cases_Bool (has (members s) n)) [
        | inl t ↦ (
          r.0 ++ f n ∷ [],
          ap (λ m. map f (members_below s m)) e ∙ map-members-in f s n l t ∙ ap (λ xs. xs ++ f n ∷ []) r.1
              ∙ append_assoc (map f (members_below s p)) r.0 (f n ∷ []),
        )
        | inr o ↦ (r.0, ap (λ m. map f (members_below s m)) e ∙ map-members-out f s n l o ∙ r.1)
      ]

  -- a process of the set stands after those below it
  pub stands : (p : ℕ) → p < 16 → has (members s) p ≡ true → slice_get (map f (members s)) (length (map f (members_below s p))) ≡ Some (f p)
  stands p l t =
      let e : (p + 1) + (15 - p) ≡ 16 = omega arith in
      let r = begins (p + 1) (15 - p) (omega arith) in
      let front : List X = map f (members_below s p) in
      let all : map f (members s) ≡ front ++ f p ∷ r.0 =
      ap (λ m. map f (members_below s m)) (sym e) ∙ r.1 ∙ ap (λ xs. xs ++ r.0) (map-members-in f s p l t) ∙ append_assoc front (f p ∷ []) r.0 in
      ap (λ xs. slice_get xs (length front)) all ∙ slice_get-cut front (f p) r.0

-- one more of the first
pub take-got : {X : Type 0} (xs : List X) (i : ℕ) (v : X) → slice_get xs i ≡ Some v → take (i + 1) xs ≡ take i xs ++ v ∷ []
take-got xs i v h = take_more xs i v (slice_get_within xs i v h) ∙ ap (λ x. take i xs ++ x ∷ []) (get_or_from_slice_get xs i v v h)

-- a list is another one if it has its length and begins with it
pub same-all : {X : Type 0} (xs ys : List X) (n : ℕ) → n ≡ length ys → take n xs ≡ ys → IsTrue (n == length xs) ↔ (xs ≡ ys)
same-all xs ys n e h = (
  λ t. let m = eqb-true n (length xs) t in sym (take_all n xs (omega arith)) ∙ h,
  λ q. eq-eqb n (length xs) (e ∙ ap length (sym q)),
)

pub never : {P : Type 0} (b : Bool) → b ≡ false → (P → ⊥) → IsTrue b ↔ P
never b e h = (λ t. absurd (let z : true ≡ false = sym t ∙ e in cc), λ p. absurd (h p))
