use Rattle.std.proofs.Common.{◌≡◌, ◌-◌, length}
use Rattle.za_script.specs.ScriptLists.{script_of}
use Rattle.za_script.specs.Scripts.{total}
use Rattle.za_table.specs.Tables.{machine_of}
use Rattle.za_table.proofs.Weaving.{woven}
use Rattle.za_table.proofs.table.Table.finish.Given as goal

abbrev pub invariant-loop-a : goal.invariant-loop-a
invariant-loop-a l =
    record {
      given : l.self.given ≡ l.initial.self.given;
      hands : l.self.hands ≡ l.initial.self.hands;
      same : woven (machine_of l.initial.self.given) l.initial.self.state.journal ≡ woven (machine_of l.self.given) l.self.state.journal;
    }

abbrev pub decreases-loop-a : goal.decreases-loop-a
decreases-loop-a l = total (script_of l.self.given.scripts) l.self.given.dfa.alphabet.processes - length l.self.state.journal
