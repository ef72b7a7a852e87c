use Rattle.std.proofs.Common.{ℕ, ◌<◌, get_or}
use Rattle.za_script.specs.ScriptLists.{IsLetterOf}
use Rattle.za_script.proofs.scripts.are_letters_of.Given as goal

abbrev pub invariant-loop-a : goal.invariant-loop-a
invariant-loop-a l = (k : ℕ) → k < l.a-index → IsLetterOf l.alphabet l.p (get_or l.letters k (record { 0 = 0 })).0
