use Rattle.std.proofs.Common.{◌≡◌, ℕ, ◌*◌, ◌^◌, ◌≤◌, List, [], ◌∷◌, length, map, get_or, slice_index, Option, None, Vec, Global, refl, sym, ap, subst, ◌∙◌}
use Rattle.std.proofs.Common.{arith}
use Rattle.std.specs.List.{range_with_len}
use Rattle.std.specs.Vec.{with_items}
use Rattle.std.proofs.lemmas.List.{length-map, with_items_is}
use Rattle.za_alpha.specs.Alphabet.{loc_of}
use Rattle.za_alpha.specs.Words.{has}
use Rattle.za_order.specs.Locals.{Ids, ids}
use Rattle.za_order.specs.Labels.{number_of}
use Rattle.za_alpha.specs.Procs.{members}
use Rattle.za_ids.specs.Columns.{AreInColumns}
use Rattle.za_ids.specs.declared.ids.EventId.{EventId}
use Rattle.za_ids.specs.Numbers.{event_numbers}
use Rattle.za_gossip.specs.Private.Inside.{rows_in}
use Rattle.za_gossip.specs.declared.gossip.Gossip.TheInside.{Inside}
use Rattle.za_gossip.specs.declared.gossip.Level.{Level}
use Rattle.za_gossip.specs.declared.gossip.Level.TheVariants.{Primary, Secondary, Tertiary}
use Rattle.za_gossip.specs.Rows.{Rows, AreRowsAfter, rows_of, rows_after}
use Rattle.za_gossip.specs.Private.Levels.{level_of}
use Rattle.za_gossip.specs.Updates.{new_label, updated}
use Rattle.za_gossip.specs.Private.Sources.{IsSource, joined_entry}
use Rattle.za_gossip.proofs.Updates.{label-after, rows-after}
use Rattle.za_gossip.proofs.RowsOf.{same-rows}
use Rattle.za_gossip.proofs.LevelRows.{own_block}
use Rattle.za_gossip.proofs.Sizes.{items_of, level-size}
use Rattle.za_gossip.proofs.Columns.{tertiary-column}
use Rattle.za_gossip.proofs.Inputs.{inputs-some, input-at}
use Rattle.za_gossip.proofs.Advanced.{length-input, label-found, row-written}
use Rattle.za_gossip.proofs.updating.advance.Goals as goal
use Rattle.za_gossip.proofs.updating.advance.Goals.{After-write_row-3}

regrouped : (n : ℕ) → n * (n * n) ≡ n * n * n
regrouped n = grind (arith)

pub bounds-inputs-0 : goal.bounds-inputs-0
bounds-inputs-0 c = inputs-some c.args.alphabet.now c.args.a.0 c.processes-n.ensures.whole c.requires.letter c.args.inputs.now c.requires.rows.0
    c.requires.rows.1

pub least_free_among-label-requires-clause-numbers : goal.least_free_among-label-requires-clause-numbers
least_free_among-label-requires-clause-numbers c =
    let n : ℕ = c.args.alphabet.now.processes in
    let some = inputs-some c.args.alphabet.now c.args.a.0 c.processes-n.ensures.whole c.requires.letter c.args.inputs.now c.requires.rows.0 c.requires.rows.1 in
    sym (length-map c.entries.result.now (λ (id : EventId). id.0)) ∙ ap length c.entries.ensures.value
    ∙ ap (λ (rows : Rows). length rows.tertiary) c.index-inputs-0.is
    ∙ length-input c.args.alphabet.now c.args.a.0 c.processes-n.ensures.whole c.requires.letter c.args.inputs.now c.requires.rows.0 c.requires.rows.1 Tertiary 0
    c.index-inputs-0.result some
    ∙ regrouped n ∙ ap (λ m. m * m * m) (sym c.processes-n.ensures.value)

pub least_free_among-label-requires-clause-columns : goal.least_free_among-label-requires-clause-columns
least_free_among-label-requires-clause-columns c =
    let al = c.args.alphabet.now in
    let n : ℕ = al.processes in
    let given = c.requires.rows.1 in
    let some = inputs-some al c.args.a.0 c.processes-n.ensures.whole c.requires.letter c.args.inputs.now c.requires.rows.0 given in
    let x : ℕ = get_or (loc_of al c.args.a.0) 0 0 in
    let row : event_numbers c.entries.result.now ≡ (rows_after (loc_of al) n c.requires.rows.0 x).tertiary =
    c.entries.ensures.value ∙ ap (λ (rows : Rows). rows.tertiary)
    (c.index-inputs-0.is ∙ input-at al c.args.a.0 c.processes-n.ensures.whole c.requires.letter c.args.inputs.now c.requires.rows.0 given 0
    c.index-inputs-0.result some) in
    let own : AreInColumns n c.args.a.0 (loc_of al c.args.a.0) (event_numbers c.entries.result.now) = λ j k l h.
    tertiary-column (loc_of al) n c.processes-n.ensures.whole.some_process c.requires.rows.0 x j c.args.a.0 k l
    (ap (λ (xs : List ℕ). slice_index xs j) (sym row) ∙ h) in
    subst (λ (m : ℕ). AreInColumns m c.args.a.0 (members c.loc.result) (event_numbers c.entries.result.now)) (sym c.processes-n.ensures.value)
    (subst (λ (ps : List ℕ). AreInColumns n c.args.a.0 ps (event_numbers c.entries.result.now)) (ap members (sym c.loc.ensures)) own)

pub write_row-requires-clause-some : goal.write_row-requires-clause-some
write_row-requires-clause-some c =
    inputs-some c.args.alphabet.now c.args.a.0 c.processes-n.ensures.whole c.requires.letter c.args.inputs.now c.requires.rows.0 c.requires.rows.1

pub write_row-requires-2-clause-some : goal.write_row-requires-2-clause-some
write_row-requires-2-clause-some c =
    inputs-some c.args.alphabet.now c.args.a.0 c.processes-n.ensures.whole c.requires.letter c.args.inputs.now c.requires.rows.0 c.requires.rows.1

pub write_row-requires-3-clause-some : goal.write_row-requires-3-clause-some
write_row-requires-3-clause-some c =
    inputs-some c.args.alphabet.now c.args.a.0 c.processes-n.ensures.whole c.requires.letter c.args.inputs.now c.requires.rows.0 c.requires.rows.1

-- a row of `into` is as long as that of each input
pub write_row-requires-clause-rows : goal.write_row-requires-clause-rows
write_row-requires-clause-rows c = λ k d l.
    let long = length-input c.args.alphabet.now c.args.a.0 c.processes-n.ensures.whole c.requires.letter c.args.inputs.now c.requires.rows.0 c.requires.rows.1
    Primary k d l in
    let slice : c.as_mut_slice.result.now ≡ items_of Primary c.into.inside = c.as_mut_slice.ensures.value in
    let size = ap length slice ∙ level-size c.args.alphabet.now.processes c.into.inside c.args.into.now c.into.view_is c.into.invariant c.requires.shape
    Primary in
    omega arith

pub write_row-requires-2-clause-rows : goal.write_row-requires-2-clause-rows
write_row-requires-2-clause-rows c = λ k d l.
    let long = length-input c.args.alphabet.now c.args.a.0 c.processes-n.ensures.whole c.requires.letter c.args.inputs.now c.requires.rows.0 c.requires.rows.1
    Secondary k d l in
    let slice : c.as_mut_slice-2.result.now ≡ items_of Secondary c.into.inside = c.as_mut_slice-2.ensures.value in
    let size = ap length slice ∙ level-size c.args.alphabet.now.processes c.into.inside c.args.into.now c.into.view_is c.into.invariant c.requires.shape
    Secondary in
    omega arith

pub write_row-requires-3-clause-rows : goal.write_row-requires-3-clause-rows
write_row-requires-3-clause-rows c = λ k d l.
    let long = length-input c.args.alphabet.now c.args.a.0 c.processes-n.ensures.whole c.requires.letter c.args.inputs.now c.requires.rows.0 c.requires.rows.1
    Tertiary k d l in
    let slice : c.as_mut_slice-3.result.now ≡ items_of Tertiary c.into.inside = c.as_mut_slice-3.ensures.value in
    let size = ap length slice ∙ level-size c.args.alphabet.now.processes c.into.inside c.args.into.now c.into.view_is c.into.invariant c.requires.shape
    Tertiary in
    omega arith

found : (c : After-write_row-3) (w : List ℕ) → AreRowsAfter c.args.alphabet.now w (loc_of c.args.alphabet.now c.args.a.0) c.args.inputs.now →
    new_label c.args.alphabet.now.processes (loc_of c.args.alphabet.now c.args.a.0) c.args.a.0
    (ids (loc_of c.args.alphabet.now) c.args.alphabet.now.processes w (length w)) ≡ c.least_free_among-label.result
found c w given =
    let row : (get_or c.args.inputs.now 0 c.index-inputs-0.result).tertiary ≡ event_numbers c.entries.result.now =
    sym (c.entries.ensures.value ∙ ap (λ (rows : Rows). rows.tertiary) c.index-inputs-0.is) in
    let n = c.processes-n.ensures.value in
    let label : ℕ = c.least_free_among-label.result in
    let fits : label ≤ c.processes-n.result ^ 3 = c.least_free_among-label.ensures.bounded in
    label-found c.args.alphabet.now c.args.a.0 c.processes-n.ensures.whole c.requires.letter c.args.inputs.now w given label c.index-inputs-0.result
    (subst (λ m. label ≤ m ^ 3) n fits)
    (ap (λ r. has r (number_of c.args.alphabet.now.processes c.args.a.0 label)) row
    ∙ ap (λ m. has (event_numbers c.entries.result.now) (number_of m c.args.a.0 label)) (sym n) ∙ c.least_free_among-label.ensures.free)
    (λ j l. ap (λ r. has r (number_of c.args.alphabet.now.processes c.args.a.0 j)) row
    ∙ ap (λ m. has (event_numbers c.entries.result.now) (number_of m c.args.a.0 j)) (sym n) ∙ c.least_free_among-label.ensures.least j l)

pub returns-clause-label : goal.returns-clause-label
returns-clause-label c = λ w given.
    sym (found (goal.at.returns-clause-label c).After-write_row-3 w given)
    ∙ label-after (loc_of c.args.alphabet.now) (length c.args.alphabet.now.letters) c.args.alphabet.now.processes w c.args.a.0
    c.processes-n.ensures.whole.located given.word c.requires.letter

-- the rows as they are written, after a word
module _ (c : After-write_row-3) (w : List ℕ) (given : AreRowsAfter c.args.alphabet.now w (loc_of c.args.alphabet.now c.args.a.0) c.args.inputs.now) where
  abbrev n : ℕ
  n = c.args.alphabet.now.processes

  abbrev xs : List ℕ
  xs = loc_of c.args.alphabet.now c.args.a.0

  abbrev known : ℕ → Ids
  known = ids (loc_of c.args.alphabet.now) n w (length w)

  row : (level : Level) (own : List ℕ) (sources : List (Option ℕ)) (into : List EventId) → into ≡ items_of level c.into.inside →
      sources ≡ c.set_sources.new.sources → own ≡ own_block n xs c.args.a.0 known level →
      map (joined_entry own sources (map (level_of level) c.args.inputs.now)) (range_with_len 0 (length into))
      ≡ level_of level (rows_of n (updated n xs c.args.a.0 known))
  row level own sources into e s o =
      row-written c.args.alphabet.now c.args.a.0 c.processes-n.ensures.whole c.requires.letter c.args.inputs.now w given level own sources (length into)
      (ap length e ∙ level-size n c.into.inside c.args.into.now c.into.view_is c.into.invariant c.requires.shape level) o
      (λ q b h. c.set_sources.ensures.within q b (ap (λ ys. get_or ys q None) (sym s) ∙ h))
      (λ q l. subst (λ ys. IsSource c.args.alphabet.now w c.args.a.0 q (get_or ys q None)) (sym s) (c.set_sources.ensures.sources w given q l))

  -- the vector holds what was written
  held : (v : Vec EventId Global) (level : Level) (old new : List EventId) → v.items ≡ items_of level c.into.inside → old ≡ items_of level c.into.inside →
      length new ≡ length old → (with_items v new).items ≡ new
  held v level old new e f g = with_items_is v new (g ∙ ap length (f ∙ sym e) ∙ sym v.ok.0)

  primary-row : event_numbers c.write_row.new.into ≡ (rows_of n (updated n xs c.args.a.0 known)).primary
  primary-row =
      let written : event_numbers c.write_row.new.into
      ≡ map (joined_entry (event_numbers c.as_slice-2.result.now) c.as_slice.result.now (map (level_of Primary) c.args.inputs.now))
      (range_with_len 0 (length c.as_mut_slice.result.now)) = c.write_row.ensures in
      let event : c.as_slice-2.result.now ≡ c.id_of.result ∷ [] = c.as_slice-2.ensures in
      written ∙ row Primary (event_numbers c.as_slice-2.result.now) c.as_slice.result.now c.as_mut_slice.result.now c.as_mut_slice.ensures.value
      c.as_slice.ensures
      (ap event_numbers event ∙ ap (λ v. v ∷ []) (c.id_of.ensures ∙ ap (λ m. number_of m c.args.a.0 c.least_free_among-label.result) c.processes-n.ensures.value
      ∙ ap (number_of n c.args.a.0) (sym (found c w given))))

  primary-held : (with_items c.into.inside.primary c.write_row.new.into).items ≡ c.write_row.new.into
  primary-held = held c.into.inside.primary Primary c.as_mut_slice.result.now c.write_row.new.into refl c.as_mut_slice.ensures.value c.write_row.auto.into

  secondary-row : event_numbers c.write_row-2.new.into ≡ (rows_of n (updated n xs c.args.a.0 known)).secondary
  secondary-row =
      let written : event_numbers c.write_row-2.new.into
      ≡ map (joined_entry (event_numbers c.as_slice-4.result.now) c.as_slice-3.result.now (map (level_of Secondary) c.args.inputs.now))
      (range_with_len 0 (length c.as_mut_slice-2.result.now)) = c.write_row-2.ensures in
      let before : c.as_slice-4.result.now ≡ (with_items c.into.inside.primary c.write_row.new.into).items = c.as_slice-4.ensures.value in
      written ∙ row Secondary (event_numbers c.as_slice-4.result.now) c.as_slice-3.result.now c.as_mut_slice-2.result.now c.as_mut_slice-2.ensures.value
      c.as_slice-3.ensures
      (ap event_numbers (before ∙ primary-held) ∙ primary-row)

  secondary-held : (with_items c.into.inside.secondary c.write_row-2.new.into).items ≡ c.write_row-2.new.into
  secondary-held = held c.into.inside.secondary Secondary c.as_mut_slice-2.result.now c.write_row-2.new.into refl c.as_mut_slice-2.ensures.value
      c.write_row-2.auto.into

  tertiary-row : event_numbers c.write_row-3.new.into ≡ (rows_of n (updated n xs c.args.a.0 known)).tertiary
  tertiary-row =
      let written : event_numbers c.write_row-3.new.into
      ≡ map (joined_entry (event_numbers c.as_slice-6.result.now) c.as_slice-5.result.now (map (level_of Tertiary) c.args.inputs.now))
      (range_with_len 0 (length c.as_mut_slice-3.result.now)) = c.write_row-3.ensures in
      let before : c.as_slice-6.result.now ≡ (with_items c.into.inside.secondary c.write_row-2.new.into).items = c.as_slice-6.ensures.value in
      written ∙ row Tertiary (event_numbers c.as_slice-6.result.now) c.as_slice-5.result.now c.as_mut_slice-3.result.now c.as_mut_slice-3.ensures.value
      c.as_slice-5.ensures
      (ap event_numbers (before ∙ secondary-held) ∙ secondary-row)

  tertiary-held : (with_items c.into.inside.tertiary c.write_row-3.new.into).items ≡ c.write_row-3.new.into
  tertiary-held = held c.into.inside.tertiary Tertiary c.as_mut_slice-3.result.now c.write_row-3.new.into refl c.as_mut_slice-3.ensures.value
      c.write_row-3.auto.into

pub returns-clause-rows : goal.returns-clause-rows
returns-clause-rows c = λ w given x h.
    let d = (goal.at.returns-clause-rows c).After-write_row-3 in
    let now : Inside = record {
      primary = with_items c.into.inside.primary c.write_row.new.into;
      secondary =
          with_items c.into.inside.secondary c.write_row-2.new.into;
      tertiary = with_items c.into.inside.tertiary c.write_row-3.new.into;
    } in
    same-rows (rows_in now) (rows_of (n d w given) (updated (n d w given) (xs d w given) c.args.a.0 (known d w given)))
    (ap event_numbers (primary-held d w given) ∙ primary-row d w given)
    (ap event_numbers (secondary-held d w given) ∙ secondary-row d w given)
    (ap event_numbers (tertiary-held d w given) ∙ tertiary-row d w given)
    ∙ rows-after (loc_of c.args.alphabet.now) (length c.args.alphabet.now.letters) (n d w given) w c.args.a.0 c.processes-n.ensures.whole.located given.word
    c.requires.letter x h
