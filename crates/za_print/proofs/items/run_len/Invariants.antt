use Rattle.std.proofs.Common.{◌≡◌, ◌+◌, drop}
use Rattle.std.specs.Prelude.{◌==◌}
use Rattle.std.specs.List.{prefix_len}
use Rattle.za_alpha.specs.Letters.{numbers}
use Rattle.za_print.proofs.items.run_len.Given as goal

abbrev pub invariant-loop-i : goal.invariant-loop-i
invariant-loop-i l = l.i + prefix_len (λ b. b == l.first) (drop l.i (numbers l.letters)) ≡ prefix_len (λ b. b == l.first) (numbers l.letters)
