use Rattle.std.proofs.Common.{ℕ, ◌+◌, ◌*◌, ◌==◌, slice_index, sym, ap, ◌∙◌, arith, below_more}
use Rattle.za_ids.specs.Numbers.{event_numbers}
use Rattle.za_order.proofs.Ranges.{any-at, any-none}
use Rattle.za_gossip.proofs.Places.{number-at}
use Rattle.za_gossip.proofs.gossip.has_for.Goals as goal

pub returns-then-eq : goal.returns-then-eq
returns-then-eq c =
    let i : ℕ = c.loop-q.q * c.args.n + c.args.r in
    sym (any-at (λ q. slice_index (event_numbers c.args.secondary.now) (q * c.args.n + c.args.r) == c.args.event.0) c.args.n c.loop-q.q c.loop-q-test.true
    (ap (λ v. v == c.args.event.0) (number-at c.args.secondary.now i) ∙ sym c.eq.ensures ∙ c.if-eq.true))

pub loop-q-preserved : goal.loop-q-preserved
loop-q-preserved c =
    let i : ℕ = c.loop-q.q * c.args.n + c.args.r in
    below_more _ _ c.loop-q.invariant (ap (λ v. v == c.args.event.0) (number-at c.args.secondary.now i) ∙ sym c.eq.ensures ∙ c.if-eq.false)

pub returns : goal.returns
returns c =
    sym (any-none (λ q. slice_index (event_numbers c.args.secondary.now) (q * c.args.n + c.args.r) == c.args.event.0) c.args.n
    (λ k l. c.loop-q.invariant k (omega arith)))
