use Rattle.std.proofs.Common.{◌≡◌, ℕ, ◌<◌, slice_index}
use Rattle.za_dfa.specs.Tables.{automaton_of}
use Rattle.za_min.specs.Private.Rounds.{rounds}
use Rattle.za_min.proofs.apart.round_of_split.Given as goal

-- no round so far tells the states apart
abbrev pub invariant-loop-n : goal.invariant-loop-n
invariant-loop-n l = (k : ℕ) → k < l.n → slice_index (rounds (automaton_of l.dfa) k) l.q ≡ slice_index (rounds (automaton_of l.dfa) k) l.r
