use Rattle.std.proofs.Common.{◌-◌, length}
use Rattle.za_script.specs.Scripts.{total}
use Rattle.za_script.specs.ScriptLists.{script_of}
use Rattle.za_script.proofs.Standing.{Stands}
use Rattle.za_script.proofs.woven.weave.Given as goal

abbrev pub invariant-loop-a : goal.invariant-loop-a
invariant-loop-a l = Stands l.alphabet l.scripts l.weaving.places.items l.weaving.sets.items l.word

abbrev pub decreases-loop-a : goal.decreases-loop-a
decreases-loop-a l = total (script_of l.scripts) l.alphabet.processes - length l.word
