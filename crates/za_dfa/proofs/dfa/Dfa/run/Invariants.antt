use Rattle.std.proofs.Common.{◌≡◌, ◌<◌, drop}
use Rattle.za_alpha.specs.Letters.{numbers}
use Rattle.za_dfa.specs.Automata.{walk}
use Rattle.za_dfa.specs.Tables.{step_of}
use Rattle.za_dfa.proofs.dfa.Dfa.run.Given as goal

-- the letters that are left lead to where all of them do
abbrev pub invariant-loop-a : goal.invariant-loop-a
invariant-loop-a l = record {
  below : l.state < l.self.states;
  left : walk (step_of l.self) l.state (numbers (drop l.a-index l.letters)) ≡ walk (step_of l.self) l.q (numbers l.letters);
}
