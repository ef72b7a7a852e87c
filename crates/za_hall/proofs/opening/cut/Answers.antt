use Rattle.std.proofs.Common.{arith}
use Rattle.za_hall.proofs.Seats.{splits}
use Rattle.za_hall.proofs.opening.cut.Goals as goal

pub split_seat-seat-requires : goal.split_seat-seat-requires
split_seat-seat-requires c = (
  c.requires.hall,
  (let s = c.args.hall.now.sized in omega arith),
  splits _ _ c.args.rest.now.me.0 _ _ c.requires.next.1 c.requires.free.0,
)
