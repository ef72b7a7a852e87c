use Rattle.std.proofs.Common.{◌≡◌, map}
use Rattle.za_text.specs.ProcessNames.{numbered}
use Rattle.za_text.specs.Private.NamesInside.{bytes_of}
use Rattle.za_text.proofs.names.Names.numbers.Given as goal

abbrev pub invariant-loop-p : goal.invariant-loop-p
invariant-loop-p l = map bytes_of l.names.items ≡ numbered l.p
