use Rattle.std.proofs.Common.{length}
use Rattle.za_alpha.proofs.Projections.{letter-within}
use Rattle.za_order.proofs.pasts.participants_at.Goals as goal

pub loc-requires : goal.loc-requires
loc-requires c = letter-within (length c.args.alphabet.now.letters) c.args.letters.now c.args.i _ c.requires.word c.requires.position
