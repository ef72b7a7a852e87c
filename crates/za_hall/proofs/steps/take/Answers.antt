use Rattle.std.proofs.Common.{arith}
use Rattle.za_hall.proofs.Hands.{try_as}
use Rattle.za_hall.proofs.steps.take.Goals as goal

pub compare_exchange-found-requires : goal.compare_exchange-found-requires
compare_exchange-found-requires c = (
  c.requires.hall,
  (let s = c.args.hall.now.sized in omega arith),
  try_as _ _ _ c.args.seat.now.me c.requires.note.0 c.requires.note.1 c.requires.free.0 c.requires.free.1,
)
