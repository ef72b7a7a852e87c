use Rattle.std.proofs.Common.{◌≡◌, replicate}
use Rattle.za_gossip.specs.Rows.{blank_rows}
use Rattle.za_payload.proofs.circle.blanks.Given as goal

abbrev pub invariant-loop : goal.invariant-loop
invariant-loop l = l.rows.items ≡ replicate l.counter (blank_rows l.n)
