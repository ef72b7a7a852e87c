use Rattle.za_theorem.proofs.Exactly.{zielonkas_theorem, distributable_by_diamonds, closed_is_distributable}
use Rattle.za_theorem.proofs.laws.zielonka.Goals as goal

pub returns-clause-exactly : goal.returns-clause-exactly
returns-clause-exactly c = zielonkas_theorem

pub returns-clause-diamonds : goal.returns-clause-diamonds
returns-clause-diamonds c = distributable_by_diamonds

pub returns-clause-automata : goal.returns-clause-automata
returns-clause-automata c = closed_is_distributable
