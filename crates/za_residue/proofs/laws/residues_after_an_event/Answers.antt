use Rattle.za_residue.proofs.NextResidues.{participants_compose, participants_reset, others_keep_residues}
use Rattle.za_residue.proofs.laws.residues_after_an_event.Goals as goal

pub returns-clause-compose : goal.returns-clause-compose
returns-clause-compose c = participants_compose

pub returns-clause-reset : goal.returns-clause-reset
returns-clause-reset c = participants_reset

pub returns-clause-others : goal.returns-clause-others
returns-clause-others c = others_keep_residues
