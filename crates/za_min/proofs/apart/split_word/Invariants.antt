use Rattle.std.proofs.Common.{◌≡◌, ◌≤◌, ◌++◌}
use Rattle.za_dfa.specs.Tables.{automaton_of}
use Rattle.za_min.specs.Private.Rounds.{IsSplit, split_word}
use Rattle.za_min.proofs.apart.split_word.Given as goal

-- the letters so far, and those of the rounds that are left, are the word
abbrev pub invariant-loop-n : goal.invariant-loop-n
invariant-loop-n l = record {
  most : l.n ≤ l.round;
  split : IsSplit (automaton_of l.dfa) l.n l.left l.right;
  word : l.word ++ split_word (automaton_of l.dfa) l.n l.left l.right ≡ split_word (automaton_of l.dfa) l.round l.q l.r;
}

abbrev pub decreases-loop-n : goal.decreases-loop-n
decreases-loop-n l = l.n
