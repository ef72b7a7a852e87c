use Rattle.za_local.proofs.LocalLaws.{others_keep_locals, participants_agree_on_locals, same_trace_same_locals}
use Rattle.za_theorem.proofs.LocalStates.{transition_is_local, verdict_is_local}
use Rattle.za_theorem.proofs.laws.locality.Goals as goal

pub returns-clause-transition : goal.returns-clause-transition
returns-clause-transition c = transition_is_local

pub returns-clause-participants : goal.returns-clause-participants
returns-clause-participants c = participants_agree_on_locals

pub returns-clause-others : goal.returns-clause-others
returns-clause-others c = others_keep_locals

pub returns-clause-trace : goal.returns-clause-trace
returns-clause-trace c = same_trace_same_locals

pub returns-clause-verdict : goal.returns-clause-verdict
returns-clause-verdict c = verdict_is_local
