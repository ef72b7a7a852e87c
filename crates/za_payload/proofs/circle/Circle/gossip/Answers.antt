use Rattle.std.proofs.Common.{◌≡◌, ◌<◌, ℕ, List, get_or, subst, ap, ◌∙◌}
use Rattle.za_alpha.specs.Alphabet.{DistributedAlphabet}
use Rattle.za_gossip.specs.Rows.{Rows}
use Rattle.za_payload.specs.Circles.{CircleState, IsCircleAfter}
use Rattle.za_payload.proofs.Handing.{row-at}
use Rattle.za_payload.proofs.circle.Circle.gossip.Goals as goal

pub returns-clause-after : goal.returns-clause-after
returns-clause-after c = λ alphabet w values h.
    let rows : Rows = c.index.result.now in
    c.index.ensures ∙ ap (λ (s : CircleState). get_or s.rows c.args.p rows) c.self.view_is
    ∙ row-at alphabet w c.args.self.now.rows h.rows c.args.p rows (subst (λ n. c.args.p < n) h.processes c.requires)
