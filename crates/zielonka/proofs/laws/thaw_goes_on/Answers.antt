use Rattle.zielonka.proofs.FrozenLemmas.{frozen_texts_are_read}
use Rattle.zielonka.proofs.GoingOn.{thaw_goes_on}
use Rattle.zielonka.proofs.laws.thaw_goes_on.Goals as goal

pub returns-clause-due : goal.returns-clause-due
returns-clause-due c = thaw_goes_on

pub returns-clause-read : goal.returns-clause-read
returns-clause-read c = frozen_texts_are_read
