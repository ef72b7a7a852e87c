use Rattle.std.proofs.Common.{◌≡◌, ℕ, ◌<◌, length, true}
use Rattle.za_script.specs.ScriptLists.{script_of}
use Rattle.za_machine.specs.Machine.{is_in, fired_by}
use Rattle.za_table.specs.Tables.{machine_of}
use Rattle.za_table.proofs.table.Table.arrive_all.Given as goal

abbrev pub invariant-loop-p : goal.invariant-loop-p
invariant-loop-p l =
    record {
      given : l.self.given ≡ l.initial.self.given;
      hands : l.self.hands ≡ l.initial.self.hands;
      journal : l.self.state.journal ≡ l.initial.self.state.journal;
      all : (p : ℕ) → p < l.p → fired_by (machine_of l.self.given) l.self.state.journal p < length (script_of l.self.given.scripts p) →
          is_in l.self.state.arrived p ≡ true;
    }
