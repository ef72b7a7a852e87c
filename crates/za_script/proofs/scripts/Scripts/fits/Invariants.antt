use Rattle.std.proofs.Common.{ℕ, ◌<◌, All}
use Rattle.za_script.specs.ScriptLists.{script_of, IsLetterOf}
use Rattle.za_script.proofs.scripts.Scripts.fits.Given as goal

abbrev pub invariant-loop-p : goal.invariant-loop-p
invariant-loop-p l = (k : ℕ) → k < l.p → All (IsLetterOf l.alphabet k) (script_of l.self k)
