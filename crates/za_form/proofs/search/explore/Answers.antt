use Rattle.std.proofs.Common.{length, ap, arith}
use Rattle.za_form.specs.Private.Numbers.{positions_of}
use Rattle.za_form.proofs.Searches.{search_start}
use Rattle.za_form.proofs.search.explore.Goals as goal

pub loop-at-init : goal.loop-at-init
loop-at-init c = let long = ap length c.in_ok-found.ensures.states in record {
  within = omega arith;
  found = search_start (positions_of c.args.form.now (length c.args.masks.now)) c.in_ok-found.found.states.items c.in_ok-found.found.targets.items
      c.in_ok-found.ensures.states c.in_ok-found.ensures.targets;
}

pub loop-at-preserved : goal.loop-at-preserved
loop-at-preserved c = let l = c.in_ok-visit.ensures.0 in record { within = omega arith; found = c.in_ok-visit.ensures.1 }
