use Rattle.std.proofs.Common.{◌-◌, ◌≤◌, length}
use Rattle.za_dfa.specs.Limits.{most_states}
use Rattle.za_form.specs.Private.Numbers.{positions_of}
use Rattle.za_form.specs.Private.Searching.{HasSearched}
use Rattle.za_form.proofs.search.explore.Given as goal

-- the letters of the places so far are done
abbrev pub invariant-loop-at : goal.invariant-loop-at
invariant-loop-at l = record {
  within : l.at ≤ length l.found.states.items;
  found : HasSearched (positions_of l.form (length l.masks)) l.at 0 l.found.states.items l.found.targets.items;
}

-- there are no more places than states
abbrev pub decreases-loop-at : goal.decreases-loop-at
decreases-loop-at l = most_states - l.at
