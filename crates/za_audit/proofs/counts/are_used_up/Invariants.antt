use Rattle.std.proofs.Common.{◌≡◌, ℕ, ◌<◌, length, slice_index}
use Rattle.za_script.specs.ScriptLists.{script_of}
use Rattle.za_audit.proofs.counts.are_used_up.Given as goal

abbrev pub invariant-loop-p : goal.invariant-loop-p
invariant-loop-p l = (q : ℕ) → q < l.p → slice_index l.counts q ≡ length (script_of l.scripts q)
