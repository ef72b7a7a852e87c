use Rattle.std.proofs.Common.{◌≡◌, ℕ, ◌+◌, Option, sym, ap, subst, ◌∙◌, arith}
use Rattle.za_alpha.specs.Procs.{members}
use Rattle.za_views.specs.Private.Events.{known_by}
use Rattle.za_views.specs.Private.Newest.{later, IsNewest}
use Rattle.za_views.proofs.NewestSteps.{newest-met, newest-apart}
use Rattle.za_views.proofs.entries.newest.Goals as goal
use Rattle.za_views.proofs.entries.newest.Goals.{then-has, else-has}

pub loop-s-preserved : goal.loop-s-preserved
loop-s-preserved c =
    let ps = members c.args.takes in
    let at : ℕ → Option ℕ = known_by c.args.events.now c.args.own.now c.args.q in
    elim c.if-has.branch [
      | then-has w ↦
          let known_is : w.latest_in.result ≡ at c.loop-s.s = w.latest_in.ensures in
          subst (λ b. IsNewest ps (c.loop-s.s + 1) at b) (sym (w.best-is ∙ w.later-best.ensures ∙ ap (later c.loop-s.best) known_is))
          (newest-met ps c.loop-s.s at c.loop-s.best c.loop-s.invariant (sym c.has.ensures ∙ w.if-has.true))
      | else-has w ↦
          subst (λ b. IsNewest ps (c.loop-s.s + 1) at b) (sym w.best-is)
          (newest-apart ps c.loop-s.s at c.loop-s.best c.loop-s.invariant (sym c.has.ensures ∙ w.if-has.false))
    ]

pub returns : goal.returns
returns c =
    let at : ℕ → Option ℕ = known_by c.args.events.now c.args.own.now c.args.q in
    let all : c.loop-s.s ≡ c.args.processes = omega arith in
    subst (λ n. IsNewest (members c.args.takes) n at c.loop-s.best) all c.loop-s.invariant
