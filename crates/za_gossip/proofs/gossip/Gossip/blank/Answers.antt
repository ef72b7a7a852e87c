use Rattle.std.proofs.Common.{ℕ, ◌*◌, ap, ◌∙◌}
use Rattle.za_ids.specs.Numbers.{event_numbers}
use Rattle.za_gossip.specs.Rows.{blank_rows}
use Rattle.za_gossip.proofs.Places.{no-events}
use Rattle.za_gossip.proofs.RowsOf.{same-rows, blank-opening}
use Rattle.za_gossip.specs.contracts.gossip.Gossip.{the_view}
use Rattle.za_gossip.proofs.gossip.Gossip.blank.Goals as goal
use Rattle.za_gossip.proofs.gossip.Gossip.blank.Goals.{In_ok-vec-3}

pub returns-clause-rows : goal.returns-clause-rows
returns-clause-rows c =
    let n : ℕ = c.args.n in
    same-rows (the_view (record { primary = c.in_ok-vec.field-0; secondary = c.in_ok-vec-2.field-0; tertiary = c.in_ok-vec-3.field-0 })) (blank_rows n)
    (ap event_numbers (c.in_ok-vec.ensures.items_if_clones_equal (λ y e. e)) ∙ no-events n)
    (ap event_numbers (c.in_ok-vec-2.ensures.items_if_clones_equal (λ y e. e)) ∙ no-events (n * n))
    (ap event_numbers (c.in_ok-vec-3.ensures.items_if_clones_equal (λ y e. e)) ∙ no-events (n * n * n))

pub returns-clause-opening : goal.returns-clause-opening
returns-clause-opening c = λ loc p. returns-clause-rows c ∙ blank-opening loc c.args.n p
