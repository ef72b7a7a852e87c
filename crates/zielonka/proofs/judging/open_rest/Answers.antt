use Rattle.std.proofs.Common.{◌≡◌, ◌∙◌, length, ap, sym, subst}
use Rattle.za_alpha.specs.Words.{IsWord}
use Rattle.za_alpha.specs.Alphabet.{DistributedAlphabet, loc_of}
use Rattle.za_dfa.specs.Partials.{completion}
use Rattle.za_dfa.specs.Tables.{automaton_of}
use Rattle.za_lang.specs.Jobs.{JobData}
use Rattle.za_freeze.specs.Thawing.{frozen_job}
use Rattle.za_report.specs.Texts.{open_text}
use Rattle.za_query.proofs.BreakWords.{left-is-word, right-is-word}
use Rattle.zielonka.proofs.judging.open_rest.Goals as goal
use Rattle.zielonka.proofs.judging.open_rest.Goals.{After-alphabet}

alphabet-is : (c : After-alphabet) → c.alphabet.result.now ≡ (frozen_job c.args.bytes.now).lang.alphabet
alphabet-is c = c.alphabet.ensures ∙ ap (λ (j : JobData). j.lang.alphabet) c.in_ok-job.ensures

pub open_text-requires-clause-left : goal.open_text-requires-clause-left
open_text-requires-clause-left c =
    let dfa = completion (frozen_job c.args.bytes.now).lang in
    let words = c.requires.words in
    subst (λ (a : DistributedAlphabet). IsWord (length a.letters) c.args.left.now) (sym (alphabet-is (goal.at.open_text-requires-clause-left c).After-alphabet))
    (subst (λ w. IsWord (length dfa.alphabet.letters) w) (sym words.2) (left-is-word (loc_of dfa.alphabet) (automaton_of dfa) words.0 words.1.is))

pub open_text-requires-clause-right : goal.open_text-requires-clause-right
open_text-requires-clause-right c =
    let dfa = completion (frozen_job c.args.bytes.now).lang in
    let words = c.requires.words in
    subst (λ (a : DistributedAlphabet). IsWord (length a.letters) c.args.right.now)
    (sym (alphabet-is (goal.at.open_text-requires-clause-right c).After-alphabet))
    (subst (λ w. IsWord (length dfa.alphabet.letters) w) (sym words.3) (right-is-word (loc_of dfa.alphabet) (automaton_of dfa) words.0 words.1.is))

pub returns-clause-text : goal.returns-clause-text
returns-clause-text c =
    c.in_ok-text.ensures ∙ ap (λ (a : DistributedAlphabet). open_text a c.args.left.now c.args.right.now)
    (alphabet-is (goal.at.returns-clause-text c).After-alphabet)
