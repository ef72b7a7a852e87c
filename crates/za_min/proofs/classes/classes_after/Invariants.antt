use Rattle.std.proofs.Common.{◌≡◌, map}
use Rattle.std.specs.List.{range_with_len}
use Rattle.std.specs.Option.{option_copied}
use Rattle.za_alpha.specs.Search.{least}
use Rattle.za_dfa.specs.Tables.{automaton_of}
use Rattle.za_min.specs.Private.Rounds.{same_after}
use Rattle.za_min.proofs.classes.classes_after.Given as goal

-- the classes of the states so far
abbrev pub invariant-loop-q : goal.invariant-loop-q
invariant-loop-q l = l.names.items ≡ map (λ q. least (λ r. same_after (automaton_of l.dfa) (option_copied l.before) r q) l.dfa.states) (range_with_len 0 l.q)
