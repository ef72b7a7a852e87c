use Rattle.std.proofs.Common.{List, length, subst}
use Rattle.za_alpha.specs.Alphabet.{DistributedAlphabet}
use Rattle.za_lang.specs.Answers.{data_of}
use Rattle.za_claim.specs.declared.claim.Event.{Event}
use Rattle.za_claim.specs.Claims.{event_letters}
use Rattle.za_audit.specs.Private.Standing.{AreCounts, NoneIsNext, IsLeastNext}
use Rattle.za_audit.specs.Verdicts.{AreRight}
use Rattle.za_audit.proofs.Running.{whole-from, left-from}
use Rattle.za_audit.proofs.auditing.audited.Goals as goal

pub returns-in-Some-least_next : goal.returns-in-Some-least_next
returns-in-Some-least_next c =
    let job = data_of c.args.job.now in
    let counts = c.first_fault.new.counts in
    let a = c.in-Some-least_next.letter.0 in
    let k = subst (λ (es : List Event). AreRight job es (length es) × AreCounts job.lang.alphabet (event_letters es) counts)
    c.events.ensures.value c.in_default.ensures in
    left-from job c.args.claim.now.events counts c.requires.alphabet.located k.1 k.0 a
    (subst (λ (al : DistributedAlphabet). IsLeastNext al job.scripts counts a) c.alphabet.ensures c.in-Some-least_next.ensures)

pub answered-requires-clause-whole : goal.answered-requires-clause-whole
answered-requires-clause-whole c =
    let job = data_of c.args.job.now in
    let counts = c.first_fault.new.counts in
    let k = subst (λ (es : List Event). AreRight job es (length es) × AreCounts job.lang.alphabet (event_letters es) counts)
    c.events.ensures.value c.in_default.ensures in
    whole-from job c.args.claim.now.events counts c.requires.alphabet.located k.1 k.0
    (subst (λ (al : DistributedAlphabet). NoneIsNext al job.scripts counts) c.alphabet.ensures c.in_default-least_next.ensures)
