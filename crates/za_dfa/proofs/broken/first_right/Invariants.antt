use Rattle.std.proofs.Common.{ℕ, ◌<◌}
use Rattle.za_alpha.specs.Alphabet.{loc_of}
use Rattle.za_dfa.specs.Diamonds.{IsBrokenAt}
use Rattle.za_dfa.specs.Tables.{automaton_of}
use Rattle.za_dfa.proofs.broken.first_right.Given as goal

-- no letter so far has a broken diamond with the given one
abbrev pub invariant-loop-b : goal.invariant-loop-b
invariant-loop-b l = (y : ℕ) → y < l.b → ¬ IsBrokenAt (loc_of l.dfa.alphabet) (automaton_of l.dfa) l.q l.a.0 y
