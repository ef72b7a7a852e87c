use Rattle.za_query.specs.declared.query.Query.TheVariants.{Build}
use Rattle.za_query.specs.Replies.{Built}
use Rattle.za_query.proofs.Refusals.{refusal-replied}
use Rattle.za_query.proofs.replying.built.Goals as goal

pub returns-in-Ok : goal.returns-in-Ok
returns-in-Ok c = Built c.args.bytes.now c.in-Ok.text.items c.in-Ok.ensures

pub returns-in-Err : goal.returns-in-Err
returns-in-Err c = refusal-replied Build c.args.bytes.now c.in-Err.fault c.refused.result (λ f is. rw is at c.in-Err.ensures) c.refused.ensures
