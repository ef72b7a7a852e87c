-- A hall as it opens.
use Rattle.std.proofs.Common.{true, ◌≡◌, ◌≢◌, ℕ, zero, suc, ◌+◌, ◌<◌, Bool, false, cond, List, [], ◌∷◌, sym, refl, ap, ◌∙◌, subst, inl, inr, arith, Some}
use mathlib.Core.Option.{some, some-injective, some-ne-none}
use lib.ListN.{get_elem?}
use Rattle.std.proofs.lemmas.Option.{none-some}
use Rattle.std.proofs.lemmas.Bool.{or_cases}
use Rattle.atomic_table.specs.Table.{opening}
use Rattle.za_machine.specs.Machine.{State, fired_by, is_in, initial, is_complete, IsOver}
use Rattle.za_machine.proofs.States.{at-initial}
use Rattle.za_table.specs.Tables.{TableState, IsTable}
use Rattle.za_hall.specs.Own.{machine}
use Rattle.za_machine.specs.Hands.{hand}
use Rattle.za_hall.specs.Views.{View}
use Rattle.za_hall.specs.Rule.{NoteOk, EachNote, Apart, Knows, Kept, IsCovered}
use Rattle.za_hall.specs.Steps.{first_view, blank_note, blank_notes}
use Rattle.za_hall.specs.Places.{places}
use Rattle.za_table.proofs.Keeping as keeping
use Rattle.za_hall.proofs.Fits.{table_fits}
use Rattle.za_hall.proofs.Letters.{false_true, parts}

module _ (t : TableState) (new : t.state ≡ initial (machine t)) where
  arrived : (p : ℕ) → is_in t.state.arrived p ≡ false
  arrived p = ap (λ (c : State). is_in c.arrived p) new ∙ at-initial (machine t).processes p

  ended : (p : ℕ) → is_in t.state.ended p ≡ false
  ended p = ap (λ (c : State). is_in c.ended p) new ∙ at-initial (machine t).processes p

  empty : t.state.journal ≡ []
  empty = ap (λ (c : State). c.journal) new

  -- no letter is complete, so none is in hand
  module _ (ok : IsTable t) where
    none_complete : (a : ℕ) → a < (machine t).letters → is_complete (machine t) t.state a ≡ true → ⊥
    none_complete a la full = let s = (keeping.machine t ok).alphabet.some a la in false_true (sym (arrived s.0) ∙ (parts (machine t) t.state a s.0 full s.1).0)

    no_hand : (a p : ℕ) → hand t.hands a ≡ Some p → ⊥
    no_hand a p e = let o = ok.in_hand.each a p e in none_complete a o.letter o.complete

    blank_ok : (k : ℕ) → k < (machine t).processes → NoteOk t (blank_note k)
    blank_ok k l = record {
      inside = l;
      arrivals = let P : List ℕ → Bool → Type 0 = λ w b. 0 ≡ fired_by (machine t) w k + cond b 1 0 in
          subst (λ (z : List ℕ × Bool). P z.0 z.1) (λ i. (sym empty i, sym (arrived k) i)) refl;
      ended = sym (ended k);
      fired = inl (ap (λ w. places (machine t) k w) (sym empty));
      has = λ a e. absurd (no_hand a k e);
      held = λ a e. absurd (none-some a e);
    }

    blanks_ok : (k n : ℕ) → k + n ≡ (machine t).processes → EachNote (NoteOk t) (blank_notes k n)
    blanks_ok k zero e = tt
    blanks_ok k (suc n) e = (blank_ok k (omega arith), blanks_ok (suc k) n (omega arith))

    covered : IsCovered t
    covered = record { in_hand = ok.in_hand; taken = λ a la full. absurd (none_complete a la full) }

  not_over : 0 < (machine t).processes → ¬ IsOver (machine t) t.state
  not_over first o = elim (or_cases (is_in t.state.arrived 0) (is_in t.state.ended 0) (o.each 0 first)) [
    | inl e ↦ false_true (sym (arrived 0) ∙ e)
    | inr e ↦ false_true (sym (ended 0) ∙ e)
  ]

blank_owned : (k n : ℕ) → EachNote (λ n. ◌≡◌ {A = ℕ} 0 0) (blank_notes k n)
blank_owned k zero = tt
blank_owned k (suc n) = (refl, blank_owned (suc k) n)

blank_after : (i k n : ℕ) → i < k → EachNote (λ m. i ≢ m.number) (blank_notes k n)
blank_after i k zero lt = tt
blank_after i k (suc n) lt = ((λ e. omega arith), blank_after i (suc k) n (omega arith))

blank_apart : (k n : ℕ) → Apart (blank_notes k n)
blank_apart k zero = tt
blank_apart k (suc n) = (blank_after k (suc k) n (omega arith), blank_apart (suc k) n)

pub opens : (t : TableState) → t.state ≡ initial (machine t) → IsTable t → Kept t.given (opening (0 ∷ []) (Some t ∷ []) (first_view t))
opens t new ok = record {
  table = t;
  word = 0;
  turn = 0;
  owner = λ _. 0;
  word_is = refl;
  one_word = refl;
  one_slot = refl;
  small = omega arith;
  home = λ _. refl;
  out = λ e. absurd (omega arith);
  holder = λ e. absurd (omega arith);
  of_job = refl;
  fit = table_fits t ok;
  reached = ok.reached;
  covered = covered t new ok;
  is_over = λ e. absurd (omega arith);
  not_over = λ _. not_over t new (keeping.whole t ok).some_process;
  each = each;
}
  where
    each : (j : ℕ) (v : View) → get_elem? (first_view t ∷ []) j ≡ some v → Knows t.given t 0 0 (λ _. 0) j v
    each zero v e = subst (Knows t.given t 0 0 (λ _. 0) 0) (some-injective (first_view t) v e) record {
      job_is = inr refl;
      holds = λ h. absurd (false_true h);
      notes = blanks_ok t new ok 0 (machine t).processes (omega arith);
      owned = blank_owned 0 (machine t).processes;
      apart = blank_apart 0 (machine t).processes;
      over = λ h. absurd (false_true h);
    }
    each (suc j) v e = absurd (some-ne-none v (sym e))
