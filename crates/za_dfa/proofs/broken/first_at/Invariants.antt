use Rattle.std.proofs.Common.{ℕ, ◌<◌}
use Rattle.za_alpha.specs.Alphabet.{loc_of}
use Rattle.za_dfa.specs.Diamonds.{IsBrokenAt}
use Rattle.za_dfa.specs.Tables.{automaton_of}
use Rattle.za_dfa.proofs.broken.first_at.Given as goal

-- no letter so far has a broken diamond
abbrev pub invariant-loop-a : goal.invariant-loop-a
invariant-loop-a l = (x y : ℕ) → x < l.a → ¬ IsBrokenAt (loc_of l.dfa.alphabet) (automaton_of l.dfa) l.q x y
