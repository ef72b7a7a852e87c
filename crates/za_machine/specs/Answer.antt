-- The answer at a state that is over.
use Rattle.std.specs.Prelude.{if◌then◌else◌}
use Rattle.std.specs.List.{list_all}
use Rattle.za_dfa.specs.Automata.{Automaton, is_accepted}
use Rattle.za_script.specs.declared.answer.Answer.{Answer}
use Rattle.za_script.specs.declared.answer.Answer.TheVariants.{Accept, Reject, Stuck}
use Rattle.za_machine.specs.Machine.{State}

-- stuck where a process has not ended, else as the automaton says of the journal
abbrev pub answer_at : Automaton → State → Answer
answer_at d c = if list_all (λ e. e) c.ended then (if is_accepted d c.journal then Accept else Reject) else Stuck
