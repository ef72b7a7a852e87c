use Rattle.std.proofs.Common.{◌≡◌, ℕ, ◌<◌, length}
use Rattle.za_gossip.specs.Rows.{block_at}
use Rattle.za_local.proofs.local.same_secondary.Given as goal

-- the first blocks are the same
abbrev pub invariant-loop-q : goal.invariant-loop-q
invariant-loop-q l = (k : ℕ) → k < l.q → block_at (length l.a.primary) l.a.secondary k ≡ block_at (length l.b.primary) l.b.secondary k
