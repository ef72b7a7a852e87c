use Rattle.std.proofs.Common.{◌≡◌, ◌≤◌, ◌-◌, ◌+◌, vec_len}
use Rattle.std.specs.Io.KnownBytes.{Consumes}
use Rattle.za_base.proofs.reading.read_all.Given as goal

-- the text is what was taken so far, within the limit, and the count of faults stays
abbrev pub invariant-turns : goal.invariant-turns
invariant-turns g l = record {
  within : vec_len l.text ≤ l.limit;
  taken : Consumes (g.S.Source.left l.fn.source) (g.S.Source.left l.source) l.text.items;
  stays : g.S.Source.faults l.source ≡ g.S.Source.faults l.fn.source;
}

abbrev pub decreases-turns : goal.decreases-turns
decreases-turns g l = l.limit + 1 - vec_len l.text
