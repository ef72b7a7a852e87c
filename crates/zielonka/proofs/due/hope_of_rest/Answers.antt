use Rattle.std.proofs.Common.{◌≡◌, length, sym, ap, subst, ◌∙◌}
use Rattle.za_alpha.specs.Words.{IsWord}
use Rattle.za_alpha.specs.Alphabet.{DistributedAlphabet}
use Rattle.za_dfa.specs.Automata.{walk}
use Rattle.za_dfa.specs.Tables.{CompleteDfa, automaton_of, step_of}
use Rattle.za_min.specs.Live.{IsHope}
use Rattle.za_hope.specs.Hopes.{GoesWith}
use Rattle.za_hope.specs.Jobs.{HasHope}
use Rattle.za_lang.specs.Answers.{data_of}
use Rattle.za_script.specs.ScriptLists.{FitAlphabet}
use Rattle.za_script.specs.Woven.{weave_of}
use Rattle.zielonka.proofs.DueLemmas.{ok_map}
use Rattle.zielonka.proofs.RestLemmas.{rest-fit, rest-word, rest-hope}
use Rattle.zielonka.proofs.due.hope_of_rest.Goals as goal
use Rattle.zielonka.proofs.due.hope_of_rest.Goals.{In_ok-woven}

alphabet-is : (c : In_ok-woven) → c.alphabet.result.now ≡ c.args.it.now.closed.alphabet
alphabet-is c = c.alphabet.ensures ∙ ap (λ (d : CompleteDfa). d.alphabet) c.dfa.ensures.value

word-is : (c : In_ok-woven) → c.in_ok-woven.woven.word ≡ weave_of c.args.it.now.closed.alphabet c.args.it.now.rest
word-is c = c.in_ok-woven.ensures.weave.word ∙ ap (λ (a : DistributedAlphabet). weave_of a c.args.it.now.rest) (alphabet-is c)

pub weave-requires : goal.weave-requires
weave-requires c =
    let it = c.args.it.now in
    let left = c.requires.1 in
    subst (λ (a : DistributedAlphabet). FitAlphabet a it.rest) (sym (c.alphabet.ensures ∙ ap (λ (d : CompleteDfa). d.alphabet) c.dfa.ensures.value))
    (rest-fit c.requires.0 (data_of it.job) it.closed it.rest left.job left.thawed)

pub hope_after-requires : goal.hope_after-requires
hope_after-requires c =
    let it = c.args.it.now in
    let left = c.requires.1 in
    subst (λ w. IsWord (length it.closed.alphabet.letters) w) (sym (word-is (goal.at.hope_after-requires c).In_ok-woven))
    (rest-word c.requires.0 (data_of it.job) it.closed it.rest left.job left.thawed)

pub returns : goal.returns
returns c =
    let it = c.args.it.now in
    let d = it.closed in
    let left = c.requires.1 in
    let answer = c.args.answer in
    ok_map c.hope_after.result (GoesWith (IsHope (automaton_of d) (walk (step_of d) d.start c.in_ok-woven.woven.word)) answer) (HasHope (data_of it.job) answer)
    (λ hope goes. rest-hope c.requires.0 (data_of it.job) it.closed it.rest left.job left.thawed answer hope
    (subst (λ w. GoesWith (IsHope (automaton_of d) (walk (step_of d) d.start w)) answer hope) (word-is (goal.at.returns c).In_ok-woven) goes))
    c.hope_after.ensures
