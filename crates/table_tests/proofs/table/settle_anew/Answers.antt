use Rattle.std.proofs.Common.{List, ap, sym, subst}
use Rattle.za_local.specs.Locals.{LocalState}
use Rattle.za_local.specs.Benches.{LocalStates}
use Rattle.za_shared.specs.Records.{IsTransition}
use Rattle.za_table.proofs.Cleared.{of-none}
use Rattle.table_tests.proofs.table.settle_anew.Goals as goal

pub settle-requires-clause-made : goal.settle-requires-clause-made
settle-requires-clause-made c =
    let d = c.args.table.now.given.dfa in
    subst (λ (ls : List LocalState). IsTransition d c.args.a.0 ls c.args.made.now) (sym (ap (λ (b : LocalStates). b.locals) c.clear.ensures)) (of-none d c.args.a.0 c.args.made.now)
