use Rattle.za_dfa.specs.Tables.{automaton_of}
use Rattle.za_dfa.proofs.TableLemmas.{total_of_complete}
use Rattle.za_min.proofs.Minimised.{alike-one, split-apart}
use Rattle.za_min.proofs.apart.word_apart.Goals as goal

pub returns-in-None : goal.returns-in-None
returns-in-None c = alike-one (automaton_of c.args.dfa.now) c.args.q c.args.r c.requires.minimal c.requires.first c.requires.second c.in-None.ensures

pub returns-in_ok-word-in-Some : goal.returns-in_ok-word-in-Some
returns-in_ok-word-in-Some c =
    split-apart (automaton_of c.args.dfa.now) (total_of_complete c.args.dfa.now c.requires.rounds.whole) c.in-Some.round c.args.q c.args.r
    c.in_ok-word-in-Some.word c.in-Some.ensures.1 c.in_ok-word-in-Some.ensures
