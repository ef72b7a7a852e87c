use Rattle.std.proofs.Common.{◌≡◌, ℕ, ◌<◌, ◌||◌, true}
use Rattle.za_machine.specs.Machine.{is_in}
use Rattle.za_table.proofs.table.Table.are_settled.Given as goal

abbrev pub invariant-loop-p : goal.invariant-loop-p
invariant-loop-p l = (p : ℕ) → p < l.p → (is_in l.self.state.arrived p || is_in l.self.state.ended p) ≡ true
