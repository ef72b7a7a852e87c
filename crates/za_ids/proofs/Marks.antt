-- Marks of the labels whose numbers are in a list.
use Rattle.std.proofs.Common.{◌≡◌, ◌↔◌, ℕ, ◌+◌, ◌<◌, ◌≤◌, Bool, true, false, ◌||◌, ◌==◌, inl, inr, List, [], ◌∷◌, length, take, get_or, set, replicate, refl}
use Rattle.std.proofs.Common.{sym, ap, ◌∙◌, arith, eq-eqb, ne_eqb, get_or-set_same, get_or-set_other}
use Rattle.std.specs.List.{list_any}
use Rattle.std.proofs.lemmas.Bool.{cases_eq, or_right}
use Rattle.std.proofs.lemmas.List.{length-set, length-replicate, get_or-replicate}
use Rattle.std.proofs.lemmas.List.Folds.{list_any_more}
use Rattle.za_alpha.specs.Words.{has}
use Rattle.za_ids.specs.declared.ids.EventId.{EventId}
use Rattle.za_ids.specs.Numbers.{event_numbers}

-- whether a list has a number, by its elements
has-numbers : (ids : List EventId) (v : ℕ) → has (event_numbers ids) v ≡ list_any (λ (id : EventId). id.0 == v) ids
has-numbers [] v = refl
has-numbers (id ∷ ids) v = ap (λ b. id.0 == v || b) (has-numbers ids v)

or-none : (b : Bool) → (b || false) ≡ b
or-none true = refl
or-none false = refl

-- there is room for the labels, and those are marked whose number is among the first i of the list
pub record AreMarked (number : ℕ → ℕ) (most : ℕ) (ids : List EventId) (taken : List Bool) (i : ℕ) : Type 0 where
  pub room : most < length taken
  pub marks : (k : ℕ) → k ≤ most → get_or taken k false ≡ has (event_numbers (take i ids)) (number k)

module _ (number : ℕ → ℕ) (most : ℕ) (ids : List EventId) where
  -- whether the first i + 1 have a number
  has-more : (i v : ℕ) (d : EventId) → i < length ids →
      has (event_numbers (take (i + 1) ids)) v ≡ (has (event_numbers (take i ids)) v || (get_or ids i d).0 == v)
  has-more i v d l =
      let test : EventId → Bool = λ id. id.0 == v in
      has-numbers (take (i + 1) ids) v ∙ list_any_more test ids i d l ∙ ap (λ b. b || (get_or ids i d).0 == v) (sym (has-numbers (take i ids) v))

  pub marks-none : (size : ℕ) → most < size → AreMarked number most ids (replicate size false) 0
  marks-none size l = record {
    room = let e = length-replicate size false in omega arith;
    marks = λ k h. get_or-replicate size k false false (omega arith);
  }

  -- a place is marked that is that of the next number, where it is the number of a label
  pub marks-place : (taken : List Bool) (i place : ℕ) (d : EventId) → i < length ids → AreMarked number most ids taken i →
      ((k : ℕ) → k ≤ most → (place ≡ k) ↔ ((get_or ids i d).0 ≡ number k)) → AreMarked number most ids (set taken place true) (i + 1)
  marks-place taken i place d l m own = record {
    room = let e = length-set taken place true in let r = m.room in omega arith;
    marks = λ k h. elim (cases_eq k place) [
      | inl same ↦
          ap (λ j. get_or (set taken place true) j false) same
          ∙ get_or-set_same taken place true false (let r = m.room in omega arith)
          ∙ sym (has-more i (number k) d l
          ∙ or_right (has (event_numbers (take i ids)) (number k)) ((get_or ids i d).0 == number k)
          (eq-eqb (get_or ids i d).0 (number k) ((own k h).0 (sym same))))
      | inr ne ↦
          get_or-set_other taken place k true false ne ∙ m.marks k h
          ∙ sym (has-more i (number k) d l
          ∙ ap (λ b. has (event_numbers (take i ids)) (number k) || b) (ne_eqb (get_or ids i d).0 (number k) (λ e. ne (sym ((own k h).1 e))))
          ∙ or-none (has (event_numbers (take i ids)) (number k)))
    ];
  }
