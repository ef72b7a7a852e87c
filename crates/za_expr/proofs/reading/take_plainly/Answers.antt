use Rattle.std.proofs.Common.{subst}
use Rattle.za_expr.proofs.Taking.{plainly, IsTakenAs}
use Rattle.za_expr.proofs.reading.take_plainly.Goals as goal

pub returns-clause-taken : goal.returns-clause-taken
returns-clause-taken c s tokens h =
    let old = c.args.reading.now in
    let new = c.take_words.new.self in
    let taken = subst (λ k. IsTakenAs c.take_words.result old new k c.args.words) c.head_of.ensures c.take_words.ensures.taken in
    plainly c.take_words.result old new s tokens c.args.first.now c.args.words c.take_words.ensures.whole c.requires.after c.requires.no_table taken h
