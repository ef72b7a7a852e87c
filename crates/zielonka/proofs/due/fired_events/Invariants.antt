use Rattle.std.proofs.Common.{◌≡◌, map}
use Rattle.std.specs.List.{range_with_len}
use Rattle.zielonka.specs.Journals.{fired_event}
use Rattle.zielonka.proofs.due.fired_events.Given as goal

abbrev pub invariant-loop-at : goal.invariant-loop-at
invariant-loop-at l = l.events.items ≡ map (fired_event l.run.given.dfa.alphabet l.run.state.journal) (range_with_len 0 l.at)
