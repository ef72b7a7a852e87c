use Rattle.std.proofs.Common.{ap}
use Rattle.za_hall.specs.Private.Serving.{letter_number}
use Rattle.za_hall.proofs.tries.compute.Goals as goal

pub transit-requires-clause-letter : goal.transit-requires-clause-letter
transit-requires-clause-letter c = (c.requires.taken c.in-Some.letter.0 (ap letter_number c.in-Some.is)).0

pub transit-requires-clause-locals : goal.transit-requires-clause-locals
transit-requires-clause-locals c = (c.requires.taken c.in-Some.letter.0 (ap letter_number c.in-Some.is)).1
