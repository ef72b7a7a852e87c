use Rattle.za_machine.proofs.Moves.{no_hands_at_first, moves_keep_hands, in_hand_is_not_over}
use Rattle.za_machine.proofs.laws.hands_stand_beside_states.Goals as goal

pub returns-clause-first : goal.returns-clause-first
returns-clause-first c = no_hands_at_first

pub returns-clause-moves : goal.returns-clause-moves
returns-clause-moves c = moves_keep_hands

pub returns-clause-not_over : goal.returns-clause-not_over
returns-clause-not_over c = in_hand_is_not_over
