use Rattle.std.proofs.Common.{refl}
use Rattle.zielonka.specs.Run.{NoMemory}
use Rattle.zielonka.proofs.RunLemmas.{took-nothing}
use Rattle.zla.proofs.run.Goals as goal

pub returns-in-Err-words-clause-ran : goal.returns-in-Err-words-clause-ran
returns-in-Err-words-clause-ran g c = rw c.in-Ok.is (NoMemory (took-nothing _, λ unread. refl) refl (refl, refl))
