use Rattle.std.proofs.Common.{◌≡◌, replicate}
use Rattle.za_gossip.specs.Rows.{blank_rows}
use Rattle.za_local.proofs.bench.blank_gossips.Given as goal

-- the first are there
abbrev pub invariant-loop : goal.invariant-loop
invariant-loop l = l.gossips.items ≡ replicate l.counter (blank_rows l.n)
