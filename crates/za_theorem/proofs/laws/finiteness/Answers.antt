use Rattle.za_theorem.proofs.LocalStates.{locals_are_lists, codes_are_bounded, codes_tell_apart}
use Rattle.za_theorem.proofs.laws.finiteness.Goals as goal

pub returns-clause-lists : goal.returns-clause-lists
returns-clause-lists c = locals_are_lists

pub returns-clause-bounded : goal.returns-clause-bounded
returns-clause-bounded c = codes_are_bounded

pub returns-clause-apart : goal.returns-clause-apart
returns-clause-apart c = codes_tell_apart
