use Rattle.za_theorem.proofs.Program.{program_runs_the_automaton}
use Rattle.za_theorem.proofs.laws.program_runs_the_automaton.Goals as goal

pub returns : goal.returns
returns c = program_runs_the_automaton
