use Rattle.std.proofs.Common.{ℕ, ◌+◌, ◌-◌, List, [], length, slice_index, drop, take, map, sym, ap, ◌∙◌, arith}
use Rattle.std.proofs.lemmas.List.{get_or-map, get_or-take, get_or-drop}
use Rattle.za_ids.specs.declared.ids.EventId.{EventId}
use Rattle.za_ids.specs.Numbers.{event_numbers}
use Rattle.za_gossip.specs.Private.Levels.{level_of}
use Rattle.za_gossip.specs.Private.Sources.{source_entry}
use Rattle.za_gossip.proofs.Places.{number-at}
use Rattle.za_gossip.proofs.updating.block_after.Goals as goal

pub returns-in-Some-clause-block : goal.returns-in-Some-clause-block
returns-in-Some-clause-block c = λ j l.
    let width : ℕ = length c.args.own.now in
    let from : ℕ = c.args.from in
    let row : List EventId = c.entries.result.now in
    let none : EventId = record { 0 = 0 } in
    let own : ℕ = slice_index (event_numbers c.args.own.now) j in
    let rows = map (level_of c.args.level) c.args.inputs.now in
    number-at (take (from + width - from) (drop from row)) j
    ∙ ap (λ (e : EventId). e.0) (get_or-take (from + width - from) (drop from row) j none (omega arith) ∙ get_or-drop from row j none)
    ∙ sym (number-at row (from + j))
    ∙ ap (λ xs. slice_index xs (from + j)) (c.entries.ensures.value ∙ ap (level_of c.args.level) c.index-inputs-best.is
    ∙ sym (get_or-map (level_of c.args.level) c.args.inputs.now c.in-Some.best c.index-inputs-best.result [] (c.requires.within c.in-Some.best c.in-Some.is)))
    ∙ ap (λ o. source_entry own o rows (from + j)) (sym c.in-Some.is)
