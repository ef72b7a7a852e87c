use Rattle.std.proofs.Common.{◌≡◌, take}
use Rattle.std.specs.List.{list_all}
use Rattle.za_text.specs.Lines.{is_allowed}
use Rattle.za_text.proofs.line.are_allowed.Given as goal

-- whether the bytes so far are allowed
abbrev pub invariant-loop-b : goal.invariant-loop-b
invariant-loop-b l = l.all ≡ list_all is_allowed (take l.b-index l.bytes)
