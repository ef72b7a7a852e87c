-- What contracts see of a `Closed`.
use Rattle.za_alpha.specs.Alphabet.{loc_of}
use Rattle.za_dfa.specs.declared.closed.Closed.TheInside.{Inside}
use Rattle.za_dfa.specs.Automata.{HasDiamonds}
use Rattle.za_dfa.specs.Tables.{CompleteDfa, automaton_of}

abbrev pub dfa_of : Inside → CompleteDfa
dfa_of inside = inside.dfa

abbrev pub HasDiamondsInside : Inside → Type 0
HasDiamondsInside inside = HasDiamonds (loc_of inside.dfa.alphabet) (automaton_of inside.dfa)
