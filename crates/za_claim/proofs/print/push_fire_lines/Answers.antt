use Rattle.std.proofs.Common.{length, arith}
use Rattle.za_claim.proofs.EventLetters.{letter-below}
use Rattle.za_claim.proofs.print.push_fire_lines.Goals as goal

pub push_fire_line-requires : goal.push_fire_line-requires
push_fire_line-requires c = letter-below (length c.args.alphabet.now.letters) c.args.events.now c.loop-event.event-index (omega arith) c.requires
