use Rattle.std.proofs.Common.{length, sym, subst}
use Rattle.za_alpha.specs.Words.{IsWord}
use Rattle.za_dfa.specs.Automata.{walk}
use Rattle.za_dfa.specs.Tables.{automaton_of, step_of}
use Rattle.za_min.specs.Live.{IsHope}
use Rattle.za_hope.specs.Hopes.{GoesWith}
use Rattle.za_hope.specs.Jobs.{HasHope}
use Rattle.za_lang.specs.Answers.{data_of}
use Rattle.zielonka.proofs.DueLemmas.{ok_map, hope-is, woven-word}
use Rattle.zielonka.proofs.due.hope_with.Goals as goal

pub hope_after-requires : goal.hope_after-requires
hope_after-requires c =
    let job = data_of c.args.it.now.job in
    let d = c.args.it.now.closed in
    subst (λ w. IsWord (length d.alphabet.letters) w) (sym c.requires.woven) (woven-word job d c.requires.job.job c.requires.job.minimal)

pub returns : goal.returns
returns c =
    let job = data_of c.args.it.now.job in
    let d = c.args.it.now.closed in
    let answer = c.args.answer in
    ok_map c.hope_after.result (GoesWith (IsHope (automaton_of d) (walk (step_of d) d.start c.args.woven.now.word)) answer) (HasHope job answer)
    (λ hope goes. hope-is job d c.requires.job.job c.requires.job.closed c.requires.job.minimal answer hope
    (subst (λ w. GoesWith (IsHope (automaton_of d) (walk (step_of d) d.start w)) answer hope) c.requires.woven goes))
    c.hope_after.ensures
