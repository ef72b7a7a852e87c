use Rattle.std.proofs.Common.{◌≡◌, ℕ, List, Option, IfSome, ap, subst, ◌∙◌}
use Rattle.za_alpha.specs.Procs.{members}
use Rattle.za_local.specs.Locals.{LocalState}
use Rattle.za_shared.specs.declared.shared.Made.{Made}
use Rattle.za_shared.specs.Holders.{values_at}
use Rattle.za_shared.specs.Records.{Records, AreRecords, IsTransition}
use Rattle.za_shared.specs.Private.Steps.{IsMade}
use Rattle.za_shared.proofs.Locals.{made-shape}
use Rattle.za_shared.proofs.shared.SharedLocals.usable.Goals as goal

pub returns-then-are_on : goal.returns-then-are_on
returns-then-are_on c =
    let now = c.args.self.now in
    let output = c.in-Some.made.output.now in
    let made : IsMade now.dfa c.args.a.0 c.in-Some.made.bench.now output =
    subst (λ (o : Option Made). IfSome o (λ m. IsMade now.dfa c.args.a.0 m.bench.now m.output.now)) c.in-Some.is c.requires.made in
    let on : c.in-Some.made.bench.now.locals ≡ values_at now.shelf now.keys (members c.args.participants) =
    c.are_on.ensures.0 c.if-are_on.true ∙ ap (λ (ks : List ℕ). values_at c.self.inside.shelf ks (members c.args.participants)) c.deref.ensures.value
    ∙ ap (λ (x : Records). values_at x.shelf x.keys (members c.args.participants)) c.self.view_is in
    record {
      transition = subst (λ (ls : List LocalState). IsTransition now.dfa c.args.a.0 ls output) on made.transition;
      shape = made-shape now (subst AreRecords c.self.view_is c.self.invariant.records) c.args.a.0 c.requires.letter c.requires.locals output
          (subst (λ (ls : List LocalState). IsTransition now.dfa c.args.a.0 ls output) (on ∙ ap (values_at now.shelf now.keys) c.requires.participants)
          made.transition);
    }
