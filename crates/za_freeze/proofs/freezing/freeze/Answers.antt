use Rattle.std.proofs.Common.{◌≡◌, length, take, sym, ap, subst, ◌∙◌}
use Rattle.za_alpha.specs.Words.{IsWord}
use Rattle.za_alpha.specs.Letters.{numbers}
use Rattle.za_alpha.specs.Alphabet.{DistributedAlphabet}
use Rattle.za_script.specs.Woven.{weave_of}
use Rattle.za_freeze.proofs.CutWords.{cut-is-word}
use Rattle.za_freeze.proofs.freezing.freeze.Goals as goal

pub locals_after-requires : goal.locals_after-requires
locals_after-requires c =
    let k = c.args.k in
    let scripts = c.args.job.now.scripts in
    let given = c.args.closed.now.alphabet in
    let same : c.alphabet.result.now ≡ given = c.alphabet.ensures ∙ sym c.requires.closed.alphabet in
    let word : numbers c.first_letters-letters.result.now ≡ take k (weave_of given scripts) =
    c.first_letters-letters.ensures ∙ ap (take k) (c.letters.ensures ∙ c.word.ensures ∙ c.in_ok-woven.ensures.weave.word)
    ∙ ap (λ (a : DistributedAlphabet). take k (weave_of a scripts)) same in
    subst (IsWord (length given.letters)) (sym word) (cut-is-word given scripts k c.requires.closed.complete.distributed)
