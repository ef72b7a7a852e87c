use Rattle.std.proofs.Common.{◌≡◌, ◌<◌, length, slice_index}
use Rattle.za_form.specs.Private.Numbers.{positions_of}
use Rattle.za_form.specs.Private.Searching.{HasSearched}
use Rattle.za_form.proofs.search.Found.visit.Given as goal

-- the letters so far are done
abbrev pub invariant-loop-a : goal.invariant-loop-a
invariant-loop-a l = record {
  within : l.at < length l.self.states.items;
  same : slice_index l.self.states.items l.at ≡ slice_index l.initial.self.states.items l.at;
  found : HasSearched (positions_of l.form (length l.masks)) l.at l.a l.self.states.items l.self.targets.items;
}
