use Rattle.za_gossip.proofs.Updates.{participants_update, others_keep}
use Rattle.za_gossip.proofs.laws.numbers_after_an_event.Goals as goal

pub returns-clause-participants : goal.returns-clause-participants
returns-clause-participants c = participants_update

pub returns-clause-others : goal.returns-clause-others
returns-clause-others c = others_keep
