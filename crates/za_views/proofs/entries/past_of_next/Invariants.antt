use Rattle.std.proofs.Common.{◌≡◌, ℕ, ◌<◌, length}
use Rattle.za_alpha.specs.Limits.{most_processes}
use Rattle.za_alpha.specs.Procs.{members}
use Rattle.za_views.specs.Private.Events.{entry, known_by}
use Rattle.za_views.specs.Private.Newest.{IsJoined}
use Rattle.za_views.proofs.entries.past_of_next.Given as goal

-- the entries so far
abbrev pub invariant-loop-q : goal.invariant-loop-q
invariant-loop-q l = record {
  long : length l.past ≡ most_processes;
  made : (q : ℕ) → q < l.q → IsJoined (members l.takes) l.processes (length l.events) q (known_by l.events l.own q) (entry l.past q);
}
