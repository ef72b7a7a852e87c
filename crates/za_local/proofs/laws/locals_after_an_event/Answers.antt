use Rattle.za_local.proofs.LocalLaws.{others_keep_locals, participants_agree_on_locals}
use Rattle.za_local.proofs.laws.locals_after_an_event.Goals as goal

pub returns-clause-others : goal.returns-clause-others
returns-clause-others c = others_keep_locals

pub returns-clause-participants : goal.returns-clause-participants
returns-clause-participants c = participants_agree_on_locals
