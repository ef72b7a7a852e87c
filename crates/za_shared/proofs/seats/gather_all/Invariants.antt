use Rattle.std.proofs.Common.{◌≡◌, map, take}
use Rattle.za_shared.specs.Holders.{value}
use Rattle.za_shared.proofs.seats.gather_all.Given as goal

abbrev pub invariant-loop-p : goal.invariant-loop-p
invariant-loop-p l = l.bench ≡ record l.initial.bench { locals = map (value l.shelf) (take l.p l.keys) }
