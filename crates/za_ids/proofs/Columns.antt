-- Marks of the numbers of a column, and of all columns that can have them.
use Rattle.std.proofs.Common.{◌≡◌, ◌↔◌, ℕ, zero, suc, ◌+◌, ◌*◌, ◌/◌, ◌%◌, ◌^◌, ◌<◌, ◌≤◌, ◌==◌, Bool, true, false, List, [], ◌∷◌, length, sym, ap, subst, ◌∙◌}
use Rattle.std.proofs.Common.{arith, inl, inr}
use Rattle.std.proofs.Common.{eqb-true, eq-eqb, get_or-set_same, get_or-set_other}
use Rattle.std.specs.Prelude.{slice_index, slice_index_or, slice_set}
use Rattle.std.proofs.Math.Nat.{div-lt_iff_lt-mul, mod-lt}
use Rattle.std.proofs.lemmas.Nat.{div-add-mod'}
use Rattle.std.proofs.lemmas.Bool.{cases_Bool, cases_eq, cases_lt, or_cases, or_left, or_right}
use Rattle.std.proofs.lemmas.List.{length-set, get_or_past}
use Rattle.za_alpha.specs.Words.{has}
use Rattle.za_order.specs.Labels.{number_of}
use Rattle.za_ids.specs.Columns.{AreInColumns}
use Rattle.za_ids.specs.Private.Marked.{HasMarked}

-- one number more of a column
pub marked-more : (ids : List ℕ) (n i s first labels : ℕ) (old taken : List Bool) (place : ℕ) → place < length taken →
    ((k : ℕ) → k < labels → (place ≡ k) ↔ (slice_index ids (i * n + s) ≡ first + k)) → HasMarked ids n i s first labels old taken →
    HasMarked ids n (i + 1) s first labels old (slice_set taken place true)
marked-more ids n i s first labels old taken place l is h = record {
  size = length-set taken place true ∙ h.size;
  kept = λ k o. still k (h.kept k o);
  marked = λ j k lj lk e. elim (cases_eq j i) [
    | inl same ↦ ap (λ (x : ℕ). slice_index_or (slice_set taken place true) x false)
        (sym ((is k lk).1 (ap (λ (x : ℕ). slice_index ids (x * n + s)) (sym same) ∙ e)))
        ∙ get_or-set_same taken place true false l
    | inr other ↦ still k (h.marked j k (omega arith) lk e)
  ];
  sound = λ k lk t. elim (cases_eq k place) [
    | inl same ↦ inr (i, omega arith, (is k lk).0 (sym same))
    | inr other ↦ elim (h.sound k lk (sym (get_or-set_other taken place k true false other) ∙ t)) [
      | inl o ↦ inl o
      | inr f ↦ inr (f.0, (let m = f.1 in omega arith), f.2)
    ]
  ];
}
  where
    still : (k : ℕ) → slice_index_or taken k false ≡ true → slice_index_or (slice_set taken place true) k false ≡ true
    still k o = elim (cases_eq k place) [
      | inl same ↦ ap (λ (x : ℕ). slice_index_or (slice_set taken place true) x false) same ∙ get_or-set_same taken place true false l
      | inr other ↦ get_or-set_other taken place k true false other ∙ o
    ]

-- where a number of a list stands, and that it is there
pub place-of : (xs : List ℕ) (v : ℕ) → has xs v ≡ true → (j : ℕ) × (j < length xs) × (slice_index xs j ≡ v)
place-of [] v h = absurd (let z : false ≡ true = h in cc)
place-of (x ∷ xs) v h = elim (or_cases (x == v) (has xs v) h) [
  | inl t ↦ (0, omega arith, eqb-true x v t)
  | inr t ↦ let r = place-of xs v t in (suc r.0, (let l = r.1 in omega arith), r.2)
]

pub stands-in : (xs : List ℕ) (j v : ℕ) → j < length xs → slice_index xs j ≡ v → has xs v ≡ true
stands-in [] j v l e = absurd (omega arith)
stands-in (x ∷ xs) zero v l e = or_left (x == v) (has xs v) (eq-eqb x v e)
stands-in (x ∷ xs) (suc j) v l e = or_right (x == v) (has xs v) (stands-in xs j v (omega arith) e)

-- all columns that can have a number of the letter were marked
module _ (n a : ℕ) (some : 0 < n) (columns ids : List ℕ) (own : AreInColumns n a columns ids) (size : length ids ≡ n * n * n) (taken : List Bool)
    (first labels : ℕ)
    (is : first ≡ number_of n a 0) (count : labels ≡ n ^ 3 + 1)
    (marked : (i s k : ℕ) → i < n * n → s < n → has columns s ≡ true → k < labels → slice_index ids (i * n + s) ≡ first + k →
    slice_index_or taken k false ≡ true)
    (sound : (k : ℕ) → k < labels → slice_index_or taken k false ≡ true → (j : ℕ) × (slice_index ids j ≡ first + k)) where
  pub all-marked : (k : ℕ) → k ≤ n ^ 3 → slice_index_or taken k false ≡ has ids (number_of n a k)
  all-marked k l = elim (cases_Bool (has ids (number_of n a k))) [
    | inl t ↦
        let p = place-of ids (number_of n a k) t in
        let small = p.1 in
        let whole = div-add-mod' p.0 n in
        let row : p.0 / n < n * n = (div-lt_iff_lt-mul some).1 (subst (λ (x : ℕ). p.0 < x) size p.1) in
        let column : p.0 % n < n = mod-lt p.0 some in
        marked (p.0 / n) (p.0 % n) k row column (own p.0 k l p.2) (omega arith) (ap (slice_index ids) whole ∙ p.2 ∙ (let e = is in omega arith)) ∙ sym t
    | inr f ↦ elim (cases_Bool (slice_index_or taken k false)) [
      | inl y ↦
          let p = sound k (omega arith) y in
          let at : slice_index ids p.0 ≡ number_of n a k = p.1 ∙ (let e = is in omega arith) in
          let t : has ids (number_of n a k) ≡ true = elim (cases_lt p.0 (length ids)) [
            | inl m ↦ stands-in ids p.0 (number_of n a k) m at
            | inr g ↦ absurd (let z = get_or_past ids p.0 0 g in omega arith)
          ] in
          absurd (let z : true ≡ false = sym t ∙ f in cc)
      | inr g ↦ g ∙ sym f
    ]
  ]
