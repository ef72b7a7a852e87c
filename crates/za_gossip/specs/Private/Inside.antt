-- What the fields of a process's gossip are.
use Rattle.za_ids.specs.Numbers.{event_numbers}
use Rattle.za_gossip.specs.declared.gossip.Gossip.TheInside.{Inside}
use Rattle.za_gossip.specs.Rows.{Rows, AreShaped}

abbrev pub rows_in : Inside → Rows
rows_in inside = record {
  primary = event_numbers inside.primary.items;
  secondary = event_numbers inside.secondary.items;
  tertiary = event_numbers inside.tertiary.items;
}

abbrev pub AreShapedInside : Inside → Type 0
AreShapedInside inside = AreShaped (rows_in inside)
