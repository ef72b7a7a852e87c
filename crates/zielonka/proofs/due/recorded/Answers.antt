use Rattle.std.proofs.Common.{List, length, sym, ap, subst, ◌∙◌}
use Rattle.za_alpha.specs.Alphabet.{DistributedAlphabet}
use Rattle.za_alpha.specs.Words.{IsWord}
use Rattle.za_claim.specs.declared.claim.Event.{Event}
use Rattle.za_claim.specs.Claims.{event_letters}
use Rattle.za_claim.specs.Printed.{printed_claim}
use Rattle.za_lang.specs.Answers.{data_of}
use Rattle.za_script.specs.declared.answer.Answer.{Answer}
use Rattle.zielonka.specs.Journals.{fired_events}
use Rattle.zielonka.specs.Output.{status_of}
use Rattle.zielonka.proofs.DueLemmas.{run-maximal}
use Rattle.zielonka.proofs.Recording.{letters-of-events}
use Rattle.zielonka.proofs.due.recorded.Goals as goal

pub print_claim-requires : goal.print_claim-requires
print_claim-requires c =
    let job = data_of c.args.job.now in
    let run = c.args.run.now in
    let word = (run-maximal job run c.requires.job c.requires.run).fits.word in
    subst (λ (a : DistributedAlphabet). IsWord (length a.letters) (event_letters c.as_slice.result.now)) (sym c.alphabet.ensures)
    (subst (IsWord (length job.lang.alphabet.letters))
    (sym (ap event_letters (c.as_slice.ensures.value ∙ c.in_ok-events.ensures) ∙ letters-of-events run.given.dfa.alphabet run.state.journal)) word)

pub returns-clause-status : goal.returns-clause-status
returns-clause-status c = c.status_of-status.ensures ∙ ap status_of c.answer-answer.ensures.value

pub returns-clause-made : goal.returns-clause-made
returns-clause-made c =
    let run = c.args.run.now in
    let events = c.as_slice.result.now in
    let answer = c.answer-answer.result in
    c.in_ok-text.ensures
    ∙ ap (λ (a : DistributedAlphabet). printed_claim a (record { answer = answer; events = events })) (c.alphabet.ensures ∙ sym c.requires.run.minimal.alphabet)
    ∙ ap (λ (es : List Event). printed_claim run.given.dfa.alphabet (record { answer = answer; events = es }))
    (c.as_slice.ensures.value ∙ c.in_ok-events.ensures)
    ∙ ap (λ (a : Answer). printed_claim run.given.dfa.alphabet (record { answer = a; events = fired_events run.given.dfa.alphabet run.state.journal }))
    c.answer-answer.ensures.value
