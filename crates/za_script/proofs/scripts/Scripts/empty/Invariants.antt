use Rattle.std.proofs.Common.{◌≡◌, [], replicate}
use Rattle.za_script.proofs.scripts.Scripts.empty.Given as goal

abbrev pub invariant-loop : goal.invariant-loop
invariant-loop l = l.words.items ≡ replicate l.counter []
