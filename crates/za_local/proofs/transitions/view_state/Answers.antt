use Rattle.std.proofs.Common.{ap, subst, ◌∙◌}
use Rattle.za_alpha.specs.declared.procs.Procs.{Procs}
use Rattle.za_dfa.specs.Tables.{CompleteDfa, IsComplete}
use Rattle.za_residue.specs.Functions.{Functions, value_at}
use Rattle.za_residue.specs.Residues.{table_residues}
use Rattle.za_local.specs.Locals.{LocalState}
use Rattle.za_local.proofs.ViewStates.{view-value}
use Rattle.za_local.proofs.transitions.view_state.Goals as goal

pub returns-clause-state : goal.returns-clause-state
returns-clause-state c = λ w p e.
    let d = c.args.closed.now in
    c.apply.ensures.value
    ∙ ap (λ (f : Functions). value_at f c.none.result.0 c.start.result) (ap (λ (l : LocalState). l.residues) (c.local.view_is ∙ e))
    ∙ ap (λ (s : Procs). value_at (table_residues d w p) s.0 c.start.result) c.none.ensures.value
    ∙ ap (value_at (table_residues d w p) 0) (c.start.ensures.value ∙ ap (λ (d : CompleteDfa). d.start) c.dfa.ensures.value)
    ∙ view-value d (subst IsComplete c.dfa.ensures.value c.start.ensures.whole) w p
