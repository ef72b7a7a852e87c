use Rattle.std.proofs.Common.{◌∷◌, [], length, get_or, take, sym, ap, ◌∙◌, arith}
use Rattle.za_dfa.specs.Automata.{walk}
use Rattle.za_dfa.specs.Tables.{step_of}
use Rattle.za_dfa.proofs.Diamonds.{walk-append}
use Rattle.za_claim.specs.Claims.{event_letters, blank_event}
use Rattle.za_claim.proofs.EventLetters.{letter-below, letters-more}
use Rattle.za_audit.proofs.auditing.state_after.Goals as goal

pub step-state-requires-clause-letter : goal.step-state-requires-clause-letter
step-state-requires-clause-letter c = letter-below (length c.args.dfa.now.alphabet.letters) c.args.events.now c.loop-event.event-index (omega arith) c.requires

pub loop-event-preserved : goal.loop-event-preserved
loop-event-preserved c =
    let d = c.args.dfa.now in
    let events = c.args.events.now in
    let i = c.loop-event.event-index in
    let a = (get_or events i blank_event).letter.0 in
    record {
      within = c.step-state.ensures.within;
      there = c.step-state.ensures.value ∙ ap (λ q. step_of d q a) c.loop-event.invariant.there ∙ sym
          (walk-append (step_of d) d.start (take i (event_letters events)) (a ∷ []))
          ∙ ap (walk (step_of d) d.start) (sym (letters-more events i (omega arith)));
    }
