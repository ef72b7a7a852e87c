use Rattle.std.proofs.Common.{length, arith}
use Rattle.za_alpha.proofs.Projections.{letter-within}
use Rattle.za_script.proofs.rest.count_of.Goals as goal

pub loc-requires : goal.loc-requires
loc-requires c =
    letter-within (length c.args.alphabet.now.letters) c.args.letters.now c.loop-a.a-index _ c.requires (omega arith)
