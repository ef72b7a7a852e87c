-- The same with the seat as a call has it, whose slots are known by an equation.
use Rattle.std.proofs.Common.{◌≡◌, ◌≢◌, ◌⊎◌, ℕ, zero, suc, Bool, true, false, cond, eqb, List, [], ◌∷◌, sym, refl, ap, ◌∙◌, subst, inl, inr, arith, Some}
use Rattle.std.proofs.Common.{◌↔◌, IsTrue}
use prog.Atomic.{either}
use Rattle.atomic_table.specs.Table.{Allows}
use Rattle.za_machine.specs.Machine.{IsOver}
use Rattle.za_table.specs.Tables.{Given, TableState}
use Rattle.za_hall.specs.Own.{machine, Own}
use Rattle.za_hall.specs.Rule.{Slot, Hand, Kept}
use Rattle.za_hall.specs.Steps.{tried, carries, Taken, TookHand, Gave}
use Rattle.za_hall.specs.Views.{Note}
use Rattle.za_hall.proofs.Takes.{try_allowed}
use Rattle.za_hall.proofs.Gives.{give_allowed}

pub try_as : (job : Given) (slots id : ℕ) (m : Hand) (n : Note) → m.0.notes ≡ n ∷ [] → m.0.holds ≡ false → m.1 ≡ []
    → Allows (Kept job) slots id m 0 (λ x. either (eqb x 0) 1 x) (TookHand m)
try_as job slots id m n one free bare = let P : List (ℕ × Slot) → Type 0 = λ l. Allows (Kept job) slots id (m.0, l) 0 (λ x. either (eqb x 0) 1 x)
    (TookHand (m.0, l)) in
    subst P (sym bare) (try_allowed job slots id m.0 n [] one free)

pub give_as : (job : Given) (slots id : ℕ) (m : Hand) (n : Note) (d : TableState) (over : Bool) (x : ℕ) → m.0.holds ≡ true → m.0.notes ≡ n ∷ []
    → Own n.number m.0.took d
    → x ≡ cond over 2 0 → (IsTrue over ↔ IsOver (machine d) d.state) → m.1 ≡ (0, Some d) ∷ [] → Allows (Kept job) slots id m 0 (λ _. x) (λ _. Gave m x)
give_as job slots id m n d over x holds one own word is_over full =
    let P : List (ℕ × Slot) → Type 0 = λ l. Allows (Kept job) slots id (m.0, l) 0 (λ _. x) (λ _. Gave (m.0, l) x) in
    let Q : ℕ → Type 0 = λ y. Allows (Kept job) slots id (m.0, (0, Some d) ∷ []) 0 (λ _. y) (λ _. Gave (m.0, (0, Some d) ∷ []) y) in
    subst P (sym full) (subst Q (sym word) (go over is_over))
  where
    go : (b : Bool) → (IsTrue b ↔ IsOver (machine d) d.state) → Allows (Kept job) slots id (m.0, (0, Some d) ∷ []) 0 (λ _. cond b 2 0)
        (λ _. Gave (m.0, (0, Some d) ∷ []) (cond b 2 0))
    go true i = give_allowed job slots id m.0 n d 2 holds one own (omega arith) (λ e. omega arith) (λ _. i.0 refl) (λ e. absurd (omega arith))
    go false i = give_allowed job slots id m.0 n d 0 holds one own (omega arith) (λ e. omega arith) (λ e. absurd (omega arith)) (λ _ o. let z : false ≡ true =
        i.1 o in cc)

-- what a try that found 0 gained
pub took_out : (m m' : Hand) (x : ℕ) → TookHand m x m' → x ≡ 0 → (c : TableState) × (m' ≡ (tried 0 c m.0, (0, Some c) ∷ [])) × Taken c m.0
took_out m m' x t e = (t.1.0, t.1.1 ∙ ap (λ (n : ℕ). (tried n t.1.0 m.0, carries n t.1.0)) e, t.1.2 e)

pub took_none : (m m' : Hand) (x : ℕ) → TookHand m x m' → x ≢ 0 → ((x ≡ 1) ⊎ (x ≡ 2)) × ((c : TableState) × (m' ≡ (tried x c m.0, [])))
took_none m m' zero t e = absurd (e refl)
took_none m m' (suc zero) t e = (inl refl, (t.1.0, t.1.1))
took_none m m' (suc (suc zero)) t e = (inr refl, (t.1.0, t.1.1))
took_none m m' (suc (suc (suc k))) t e = let h = t.0 in absurd (omega arith)
