use Rattle.std.proofs.Common.{◌≡◌, ap, sym, ◌∙◌}
use Rattle.za_alpha.specs.declared.procs.Procs.{Procs}
use Rattle.za_alpha.specs.Words.{has}
use Rattle.za_alpha.specs.Procs.{members}
use Rattle.za_alpha.specs.Rows.{set_of}
use Rattle.za_alpha.proofs.Growing.{set-below, set-some}
use Rattle.za_alpha.proofs.rows.add_row.Goals as goal

pub add-requires-clause-some : goal.add-requires-clause-some
add-requires-clause-some c none =
    let same : c.set_of-loc.result ≡ set_of c.args.row.procs.items = c.set_of-loc.ensures ∙ ap set_of c.as_slice.ensures.value in
    set-some c.args.letters.now c.args.row c.requires.right (ap members (sym same) ∙ none)

pub add-requires-clause-below : goal.add-requires-clause-below
add-requires-clause-below c p h =
    let same : c.set_of-loc.result ≡ set_of c.args.row.procs.items = c.set_of-loc.ensures ∙ ap set_of c.as_slice.ensures.value in
    set-below c.args.letters.now c.args.row c.requires.right p (ap (λ (s : Procs). has (members s) p) (sym same) ∙ h)
