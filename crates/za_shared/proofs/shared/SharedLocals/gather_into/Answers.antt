use Rattle.std.proofs.Common.{◌≡◌, ℕ, List, sym, ap, subst, ◌∙◌}
use Rattle.za_alpha.specs.Procs.{members}
use Rattle.za_local.specs.Locals.{AreLocalsAfter}
use Rattle.za_local.specs.Benches.{LocalStates}
use Rattle.za_shared.specs.Holders.{values_at}
use Rattle.za_shared.specs.Records.{Records, AreRecords}
use Rattle.za_shared.proofs.Locals.{those-after}
use Rattle.za_shared.proofs.shared.SharedLocals.gather_into.Goals as goal

pub returns-clause-after : goal.returns-clause-after
returns-clause-after c = λ w h.
    let now = c.args.self.now in
    let ps = members c.args.participants in
    let is : c.gather.new.bench.locals ≡ values_at now.shelf now.keys ps =
    ap (λ (b : LocalStates). b.locals) c.gather.ensures ∙ ap (λ (ks : List ℕ). values_at c.self.inside.shelf ks ps) c.deref.ensures.value
    ∙ ap (λ (x : Records). values_at x.shelf x.keys ps) c.self.view_is in
    subst (AreLocalsAfter now.dfa w ps) (sym is)
    (those-after now w ps (subst AreRecords c.self.view_is c.self.invariant.records) c.requires.within h)
