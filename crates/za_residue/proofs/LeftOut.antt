-- What is left out for a set with one process more.
use Rattle.std.proofs.Common.{◌≡◌, ℕ, ◌^◌, ◌<◌, ◌≤◌, Bool, true, false, ◌||◌, ◌&&◌, eqb, eqb-true, eq-eqb, inl, inr, List, length, get_or, refl, sym, ap, ◌∙◌}
use Rattle.std.specs.List.{range_with_len, list_any}
use Rattle.std.proofs.lemmas.Bool.{or_cases, or_left, or_right, and_parts, and_from}
use Rattle.za_alpha.specs.declared.procs.Procs.{Procs}
use Rattle.za_alpha.specs.Words.{has}
use Rattle.za_alpha.specs.Procs.{members, no_process}
use Rattle.za_order.proofs.Sets.{same-test, any-here, any-where, in-range}
use Rattle.za_order.proofs.Ranges.{any-none, or-false}
use Rattle.za_residue.specs.declared.masks.Masks.{Masks}
use Rattle.za_residue.specs.Masks.{is_earlier, is_under}
use Rattle.za_residue.specs.Private.Turns.{is_omitted, AreOmitted}

module _ (masks : Masks) (n : ℕ) where
  -- for the empty set: the earlier ones alone
  pub omitted-none : (set : ℕ → Bool) (i x : ℕ) → ((y : ℕ) → set y ≡ false) → is_omitted masks n set i x ≡ is_earlier masks i x
  omitted-none set i x h =
      ap (λ b. is_earlier masks i x || b) (any-none (λ y. set y && is_under masks i y x) n (λ y l. ap (λ b. b && is_under masks i y x) (h y)))
      ∙ or-false (is_earlier masks i x)

  -- more for more processes
  pub omitted-wider : (s t : ℕ → Bool) (i x : ℕ) → ((y : ℕ) → s y ≡ true → t y ≡ true) → is_omitted masks n s i x ≡ true → is_omitted masks n t i x ≡ true
  omitted-wider s t i x wider h =
      let early : Bool = is_earlier masks i x in
      let with-s : ℕ → Bool = λ y. s y && is_under masks i y x in
      let with-t : ℕ → Bool = λ y. t y && is_under masks i y x in
      let range = range_with_len 0 n in
      elim (or_cases early (list_any with-s range) h) [
        | inl a ↦ or_left early (list_any with-t range) a
        | inr b ↦
            let y = any-where with-s range b in
            let p = and_parts (s y.0) (is_under masks i y.0 x) y.2 in
            or_right early (list_any with-t range) (any-here with-t range y.0 y.1 (and_from (t y.0) (is_under masks i y.0 x) (wider y.0 p.0) p.1))
      ]

  -- one process more
  pub omitted-joined : (s t : ℕ → Bool) (r i x : ℕ) → r < n → ((y : ℕ) → t y ≡ (eqb y r || s y)) → is_omitted masks n t i x
      ≡ (is_omitted masks n s i x || is_under masks i r x)
  omitted-joined s t r i x lr e =
      let early : Bool = is_earlier masks i x in
      let with-t : ℕ → Bool = λ y. t y && is_under masks i y x in
      let with-s : ℕ → Bool = λ y. s y && is_under masks i y x in
      let range = range_with_len 0 n in
      same-test (is_omitted masks n t i x) (is_omitted masks n s i x || is_under masks i r x)
      (λ h. elim (or_cases early (list_any with-t range) h) [
        | inl a ↦ or_left (is_omitted masks n s i x) (is_under masks i r x) (or_left early (list_any with-s range) a)
        | inr b ↦
            let y = any-where with-t range b in
            let p = and_parts (t y.0) (is_under masks i y.0 x) y.2 in
            elim (or_cases (eqb y.0 r) (s y.0) (sym (e y.0) ∙ p.0)) [
              | inl k ↦ or_right (is_omitted masks n s i x) (is_under masks i r x) (ap (λ q. is_under masks i q x) (sym (eqb-true y.0 r k)) ∙ p.1)
              | inr k ↦ or_left (is_omitted masks n s i x) (is_under masks i r x)
                  (or_right early (list_any with-s range) (any-here with-s range y.0 y.1 (and_from (s y.0) (is_under masks i y.0 x) k p.1)))
            ]
      ])
      (λ h. elim (or_cases (is_omitted masks n s i x) (is_under masks i r x) h) [
        | inl a ↦ omitted-wider s t i x (λ y k. e y ∙ or_right (eqb y r) (s y) k) a
        | inr b ↦ or_right early (list_any with-t range)
            (any-here with-t range r (in-range n r lr) (and_from (t r) (is_under masks i r x) (e r ∙ or_left (eqb r r) (s r) (eq-eqb r r refl)) b))
      ])

  -- nothing more for a process that leaves nothing more out of a lesser set
  pub omitted-same : (set s t : ℕ → Bool) (r i x : ℕ) → r < n → ((y : ℕ) → set y ≡ true → s y ≡ true) → ((y : ℕ) → t y ≡ (eqb y r || s y)) →
      (is_under masks i r x ≡ true → is_omitted masks n set i x ≡ true) → is_omitted masks n t i x ≡ is_omitted masks n s i x
  omitted-same set s t r i x lr wider e covered =
      omitted-joined s t r i x lr e ∙ same-test (is_omitted masks n s i x || is_under masks i r x) (is_omitted masks n s i x)
      (λ h. elim (or_cases (is_omitted masks n s i x) (is_under masks i r x) h) [
        | inl a ↦ a
        | inr b ↦ omitted-wider set s i x wider (covered b)
      ])
      (λ h. or_left (is_omitted masks n s i x) (is_under masks i r x) h)

  -- the sets with one process more
  pub more-omitted : (s t : ℕ → Bool) (r inputs : ℕ) (sets more : List Procs) → r < n → ((y : ℕ) → t y ≡ (eqb y r || s y)) → AreOmitted masks n s inputs sets →
      inputs ≤ length more → ((i : ℕ) → i < inputs → (get_or more i no_process).0 < 2 ^ 16) →
      ((i x : ℕ) → i < inputs → has (members (get_or more i no_process)) x ≡ (has (members (get_or sets i no_process)) x || is_under masks i r x)) →
      AreOmitted masks n t inputs more
  more-omitted s t r inputs sets more lr e k room small is = record {
    room = room;
    small = small;
    members = λ i x l. is i x l ∙ ap (λ b. b || is_under masks i r x) (k.members i x l) ∙ sym (omitted-joined s t r i x lr e);
  }
