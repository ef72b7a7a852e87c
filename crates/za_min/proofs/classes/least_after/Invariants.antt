use Rattle.std.proofs.Common.{◌≡◌, ℕ, ◌<◌, false}
use Rattle.std.specs.Option.{option_copied}
use Rattle.za_dfa.specs.Tables.{automaton_of}
use Rattle.za_min.specs.Private.Rounds.{same_after}
use Rattle.za_min.proofs.classes.least_after.Given as goal

-- no state so far is in the class
abbrev pub invariant-loop-r : goal.invariant-loop-r
invariant-loop-r l = (k : ℕ) → k < l.r → same_after (automaton_of l.dfa) (option_copied l.before) k l.q ≡ false
