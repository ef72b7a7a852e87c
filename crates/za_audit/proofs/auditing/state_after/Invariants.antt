use Rattle.std.proofs.Common.{◌≡◌, ◌<◌, take}
use Rattle.za_dfa.specs.Automata.{walk}
use Rattle.za_dfa.specs.Tables.{step_of}
use Rattle.za_claim.specs.Claims.{event_letters}
use Rattle.za_audit.proofs.auditing.state_after.Given as goal

abbrev pub invariant-loop-event : goal.invariant-loop-event
invariant-loop-event l =
    record {
      within : l.state < l.dfa.states;
      there : l.state ≡ walk (step_of l.dfa) l.dfa.start (take l.event-index (event_letters l.events));
    }
