use Rattle.std.proofs.Common.{◌≡◌, ◌∙◌, length, take, sym, ap, subst}
use Rattle.za_alpha.specs.Words.{IsWord}
use Rattle.za_alpha.specs.Letters.{numbers}
use Rattle.za_alpha.specs.Alphabet.{DistributedAlphabet}
use Rattle.za_lang.specs.Answers.{data_of}
use Rattle.za_freeze.specs.Frozen.{cut_word, text_after}
use Rattle.za_freeze.proofs.CutWords.{cut-is-word}
use Rattle.za_freeze.proofs.Refusals.{no-other}
use Rattle.za_freeze.proofs.thawing.compared.Goals as goal
use Rattle.za_freeze.proofs.thawing.compared.Goals.{After-first_letters-letters}

-- the letters are the first of the weave
letters-are : (c : After-first_letters-letters) → numbers c.first_letters-letters.result.now ≡ cut_word (data_of c.args.said.now.job) c.args.said.now.cut
letters-are c = c.first_letters-letters.ensures ∙ ap (take c.args.said.now.cut) (c.letters.ensures ∙ c.word.ensures ∙ c.requires.woven)

pub locals_after-requires : goal.locals_after-requires
locals_after-requires c =
    let given = c.args.said.now.job.lang.table.alphabet in
    let scripts = c.args.said.now.job.scripts in
    let cut = c.args.said.now.cut in
    subst (λ (a : DistributedAlphabet). IsWord (length a.letters) (numbers c.first_letters-letters.result.now)) (sym c.requires.alphabet)
    (subst (IsWord (length given.letters)) (sym (letters-are c)) (cut-is-word given scripts cut c.requires.job.lang.distributed))

pub returns-clause-text : goal.returns-clause-text
returns-clause-text c =
    let at = goal.at.returns-clause-text c in
    let job = data_of c.args.said.now.job in
    no-other c.as_slice-2.result.now c.args.bytes.now (sym c.in_default.is ∙ c.first_other.ensures)
    ∙ c.as_slice-2.ensures.value ∙ c.in_ok-own.ensures
    ∙ ap (text_after job c.args.closed.now) (letters-are at.After-first_letters-letters)
