use Rattle.za_alpha.specs.Procs.{members}
use Rattle.za_views.specs.Private.Events.{known_by}
use Rattle.za_views.specs.Private.Newest.{IsNewest}
use Rattle.za_views.proofs.entries.newest.Given as goal

-- the newest of the processes so far
abbrev pub invariant-loop-s : goal.invariant-loop-s
invariant-loop-s l = IsNewest (members l.takes) l.s (known_by l.events l.own l.q) l.best
