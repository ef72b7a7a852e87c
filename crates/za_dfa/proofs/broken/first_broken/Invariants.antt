use Rattle.std.proofs.Common.{ℕ, ◌<◌}
use Rattle.za_alpha.specs.Alphabet.{loc_of}
use Rattle.za_dfa.specs.Diamonds.{IsBrokenAt}
use Rattle.za_dfa.specs.Tables.{automaton_of}
use Rattle.za_dfa.proofs.broken.first_broken.Given as goal

-- no state so far has a broken diamond
abbrev pub invariant-loop-q : goal.invariant-loop-q
invariant-loop-q l = (p x y : ℕ) → p < l.q → ¬ IsBrokenAt (loc_of l.dfa.alphabet) (automaton_of l.dfa) p x y
