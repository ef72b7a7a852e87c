use Rattle.std.proofs.Common.{◌≡◌, ℕ, ◌+◌, ◌*◌, ◌<◌, ◌==◌, slice_index, false}
use Rattle.za_ids.specs.Numbers.{event_numbers}
use Rattle.za_gossip.proofs.gossip.has_for.Given as goal

-- none of the first is the event
abbrev pub invariant-loop-q : goal.invariant-loop-q
invariant-loop-q l = (k : ℕ) → k < l.q → (slice_index (event_numbers l.secondary) (k * l.n + l.r) == l.event.0) ≡ false
