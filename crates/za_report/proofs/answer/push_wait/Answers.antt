use Rattle.std.proofs.Common.{length, arith}
use Rattle.za_alpha.proofs.Projections.{letter-within}
use Rattle.za_report.proofs.answer.push_wait.Goals as goal

pub name-requires : goal.name-requires
name-requires c = letter-within (length c.args.alphabet.now.letters) c.args.script.now c.args.fired _ c.requires (omega arith)
