use Rattle.std.proofs.Common.{◌≡◌, ◌∷◌, ◌++◌, [], List, sym, ap, ◌∙◌, subst, Some}
use Rattle.atomic_table.specs.Table.{opening}
use Rattle.za_table.specs.Tables.{TableState}
use Rattle.za_hall.specs.Rule.{Slot, Kept}
use Rattle.za_hall.specs.Steps.{first_view}
use Rattle.za_hall.proofs.Opens.{opens}
use Rattle.za_hall.proofs.opening.board_of.Goals as goal

pub new-requires : goal.new-requires
new-requires c =
    let t : TableState = c.args.table in
    let items : c.push_reserved.new.self.items ≡ Some t ∷ [] = c.push_reserved.ensures.items ∙ ap (λ xs. xs ++ Some t ∷ []) c.in_ok-slots.ensures.items in
    let P : TableState → List Slot → Type 0 = λ k xs. Kept k.given (opening (0 ∷ []) xs (first_view k)) in
    subst (λ (z : TableState × List Slot). P z.0 z.1) (λ i. (sym c.of-key.ensures i, sym items i))
    (opens t c.requires.new c.requires.table)
