use Rattle.za_min.proofs.minimal.merged.Goals as goal

pub invariant_of-result : goal.invariant_of-result
invariant_of-result c = record {
  whole = c.in_ok-table.ensures.minimal.complete;
  minimal = record { minimal = c.in_ok-table.ensures.minimal.minimal; numbered = c.in_ok-table.ensures.numbered };
}
