use Rattle.std.proofs.Common.{◌-◌, ◌<◌, ap, ◌∙◌, length, arith}
use Rattle.za_alpha.specs.Search.{least}
use Rattle.za_dfa.specs.Tables.{automaton_of}
use Rattle.za_dfa.proofs.TableLemmas.{total_of_complete}
use Rattle.za_min.specs.Private.Rounds.{splits, split_word}
use Rattle.za_min.proofs.ApartSteps.{row-read, row-length, letter-found, letter-more}
use Rattle.za_min.proofs.apart.split_word.Goals as goal

pub first_split-requires-clause-classes : goal.first_split-requires-clause-classes
first_split-requires-clause-classes c =
    let most = c.loop-n.invariant.most in
    let within : c.loop-n.n - 1 < length c.args.rounds.now = omega arith in
    row-length c.args.dfa.now c.args.rounds.now c.requires.rounds (c.loop-n.n - 1) c.index-rounds-n.result within c.index-rounds-n.is

pub step-left-requires-clause-letter : goal.step-left-requires-clause-letter
step-left-requires-clause-letter c =
    let most = c.loop-n.invariant.most in
    let within : c.loop-n.n - 1 < length c.args.rounds.now = omega arith in
    letter-found (automaton_of c.args.dfa.now) (total_of_complete c.args.dfa.now c.requires.rounds.whole) c.loop-n.n
    (c.loop-n.n - 1) c.loop-n.left c.loop-n.right c.first_split.result c.index-rounds-n.result (omega arith) c.loop-n.invariant.split
    (row-read c.args.dfa.now c.args.rounds.now c.requires.rounds (c.loop-n.n - 1) c.index-rounds-n.result within c.index-rounds-n.is) c.first_split.ensures

pub step-right-requires-clause-letter : goal.step-right-requires-clause-letter
step-right-requires-clause-letter c =
    let most = c.loop-n.invariant.most in
    let within : c.loop-n.n - 1 < length c.args.rounds.now = omega arith in
    letter-found (automaton_of c.args.dfa.now) (total_of_complete c.args.dfa.now c.requires.rounds.whole) c.loop-n.n
    (c.loop-n.n - 1) c.loop-n.left c.loop-n.right c.first_split.result c.index-rounds-n.result (omega arith) c.loop-n.invariant.split
    (row-read c.args.dfa.now c.args.rounds.now c.requires.rounds (c.loop-n.n - 1) c.index-rounds-n.result within c.index-rounds-n.is) c.first_split.ensures

pub loop-n-preserved : goal.loop-n-preserved
loop-n-preserved c =
    let d = automaton_of c.args.dfa.now in
    let n = c.loop-n.n - 1 in
    let most = c.loop-n.invariant.most in
    let within : c.loop-n.n - 1 < length c.args.rounds.now = omega arith in
    let row = row-read c.args.dfa.now c.args.rounds.now c.requires.rounds (c.loop-n.n - 1) c.index-rounds-n.result within c.index-rounds-n.is in
    let more =
    letter-more d (total_of_complete c.args.dfa.now c.requires.rounds.whole) c.loop-n.n (c.loop-n.n - 1) c.loop-n.left c.loop-n.right c.first_split.result
    c.step-left.result c.step-right.result
    c.loop-n.word c.push.new.self (split_word d c.args.round c.args.q c.args.r) (omega arith) c.loop-n.invariant.split
    (c.first_split.ensures ∙ ap (λ xs. least (splits d xs c.loop-n.left c.loop-n.right) (length c.args.dfa.now.alphabet.letters)) row) c.step-left.ensures.value
    c.step-right.ensures.value c.in_ok-push.ensures.ok c.loop-n.invariant.word in
    record { most = omega arith; split = more.split; word = more.word }
