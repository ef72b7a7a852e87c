use Rattle.std.proofs.Common.{◌≡◌, ℕ, ◌<◌, false}
use Rattle.za_dfa.specs.Tables.{automaton_of}
use Rattle.za_min.specs.Private.Rounds.{splits}
use Rattle.za_min.proofs.apart.first_split.Given as goal

-- no letter so far leads into two classes
abbrev pub invariant-loop-a : goal.invariant-loop-a
invariant-loop-a l = (k : ℕ) → k < l.a → splits (automaton_of l.dfa) l.classes l.q l.r k ≡ false
