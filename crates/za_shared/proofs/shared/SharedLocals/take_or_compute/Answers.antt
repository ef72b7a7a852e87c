use Rattle.std.proofs.Common.{◌≡◌, ℕ, List, Option, IfSome, ap, subst, ◌∙◌}
use Rattle.za_alpha.specs.Procs.{members}
use Rattle.za_local.specs.Locals.{LocalState}
use Rattle.za_shared.specs.declared.shared.Made.{Made}
use Rattle.za_shared.specs.Holders.{values_at}
use Rattle.za_shared.specs.Records.{Records, AreRecords, IsTransition}
use Rattle.za_shared.specs.Private.Steps.{IsMade}
use Rattle.za_shared.proofs.Locals.{made-shape}
use Rattle.za_shared.proofs.shared.SharedLocals.take_or_compute.Goals as goal

-- what stands on the bench
on : (c : goal.After-copy_in-arg-1) → c.in-Some.made.bench.now.locals ≡ values_at c.args.self.now.shelf c.args.self.now.keys (members c.args.participants)
on c = c.are_on.ensures.0 c.if-are_on.true ∙ ap (λ (ks : List ℕ). values_at c.self.inside.shelf ks (members c.args.participants)) c.deref.ensures.value
    ∙ ap (λ (x : Records). values_at x.shelf x.keys (members c.args.participants)) c.self.view_is

pub copy_in-requires-clause-shape : goal.copy_in-requires-clause-shape
copy_in-requires-clause-shape c =
    let now = c.args.self.now in
    let made : IsMade now.dfa c.args.a.0 c.in-Some.made.bench.now c.in-Some.made.output.now =
    subst (λ (o : Option Made). IfSome o (λ m. IsMade now.dfa c.args.a.0 m.bench.now m.output.now)) c.in-Some.is c.requires.made in
    made-shape now (subst AreRecords c.self.view_is c.self.invariant.records) c.args.a.0 c.requires.letter c.requires.locals c.in-Some.made.output.now
    (subst (λ (ls : List LocalState). IsTransition now.dfa c.args.a.0 ls c.in-Some.made.output.now)
    (on c ∙ ap (values_at now.shelf now.keys) c.requires.participants) made.transition)
