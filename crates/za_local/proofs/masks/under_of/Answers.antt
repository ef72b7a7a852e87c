use Rattle.std.proofs.Common.{◌≡◌, ℕ, ◌<◌, List, length, false, get_or, slice_index, sym, ap, ◌∙◌, arith}
use Rattle.std.proofs.lemmas.List.{length-map}
use Rattle.std.proofs.lemmas.List.FromFn.{length-map-range_with_len}
use Rattle.std.proofs.lemmas.Option.{get_or_from_slice_get}
use Rattle.za_alpha.specs.Words.{has}
use Rattle.za_alpha.specs.Procs.{members}
use Rattle.za_alpha.specs.Alphabet.{loc_of}
use Rattle.za_order.specs.Views.{participants}
use Rattle.za_order.specs.Locals.{ids, best}
use Rattle.za_ids.specs.declared.ids.EventId.{EventId}
use Rattle.za_ids.specs.Numbers.{event_numbers}
use Rattle.za_gossip.specs.Rows.{Rows, rows_after, AreRowsAfter, block_at}
use Rattle.za_residue.specs.Masks.{is_shared}
use Rattle.za_local.proofs.SharedNumbers.{row-at, shared-under}
use Rattle.za_local.proofs.masks.under_of.Goals as goal
use Rattle.za_local.proofs.masks.under_of.Goals.{After-index-inputs-best}

-- r takes no part
outside : (c : After-index-inputs-best) → has (loc_of c.args.alphabet.now c.args.a.0) c.args.r ≡ false
outside c = ap (λ o. has (members o) c.args.r) (sym c.loc.ensures) ∙ sym c.has.ensures ∙ c.if-has.false

-- the rows of an input that was read
row : (c : After-index-inputs-best) (w : List ℕ) → AreRowsAfter c.args.alphabet.now w (loc_of c.args.alphabet.now c.args.a.0) c.args.inputs.now →
    (k : ℕ) (input : Rows) → k < length c.args.inputs.now →
    input ≡ get_or c.args.inputs.now k input → input ≡ rows_after (loc_of c.args.alphabet.now) c.args.alphabet.now.processes w
    (get_or (loc_of c.args.alphabet.now c.args.a.0) k 0)
row c w given k input l is = is ∙ row-at c.args.alphabet.now c.requires.whole w given.word (loc_of c.args.alphabet.now c.args.a.0) c.args.inputs.now given.rows
    k input l

-- and how long they are
size : (c : After-index-inputs-best) (k : ℕ) (input : Rows) → k < length c.args.inputs.now → input ≡ get_or c.args.inputs.now k input → length input.primary
    ≡ c.args.alphabet.now.processes
size c k input l is =
    let w = c.requires.rows.0 in
    ap (λ (r : Rows). length r.primary) (row c w c.requires.rows.1 k input l is)
    ∙ length-map-range_with_len (ids (loc_of c.args.alphabet.now) c.args.alphabet.now.processes w (length w)
    (get_or (loc_of c.args.alphabet.now c.args.a.0) k 0)).primary 0 c.args.alphabet.now.processes

pub secondary-requires : goal.secondary-requires
secondary-requires c =
    let e = size c c.args.best c.index-inputs-best.result (c.requires.best.within (outside c)) c.index-inputs-best.is in
    let l = c.requires.process in
    omega arith

pub below-requires : goal.below-requires
below-requires c =
    let b = (goal.at.below-requires c).After-index-inputs-best in
    let e = size b c.args.i c.index-inputs-i.result c.requires.input c.index-inputs-i.is in
    let few = c.requires.whole.few_processes in
    let long = sym (length-map c.primary.result.now (λ (id : EventId). id.0)) ∙ ap length c.primary.ensures.value in
    omega arith

pub returns : goal.returns
returns c = λ w given s.
    let b = (goal.at.returns c).After-index-inputs-best in
    let n : ℕ = c.args.alphabet.now.processes in
    let loc = loc_of c.args.alphabet.now in
    let xs : List ℕ = loc c.args.a.0 in
    let x : ℕ = slice_index xs c.args.i in
    let own = row b w given c.args.i c.index-inputs-i.result c.requires.input c.index-inputs-i.is in
    let other = row b w given c.args.best c.index-inputs-best.result (c.requires.best.within (outside b)) c.index-inputs-best.is in
    let long = size b c.args.best c.index-inputs-best.result (c.requires.best.within (outside b)) c.index-inputs-best.is in
    let who : ℕ = best (participants loc w) n (length w) xs c.args.r in
    let place : get_or xs c.args.best 0 ≡ who = get_or_from_slice_get xs c.args.best who 0 (c.requires.best.best (outside b) w given) in
    let block : event_numbers c.secondary.result.now ≡ block_at n (rows_after loc n w who).secondary c.args.r =
    c.secondary.ensures ∙ ap (λ m. block_at m c.index-inputs-best.result.secondary c.args.r) long ∙ ap (λ (r : Rows). block_at n r.secondary c.args.r)
    (other ∙ ap (rows_after loc n w) place) in
    c.below.ensures s
    ∙ ap (λ row. is_shared row (event_numbers c.secondary.result.now) s) (c.primary.ensures.value ∙ ap (λ (r : Rows). r.primary) own)
    ∙ ap (λ row. is_shared (rows_after loc n w x).primary row s) block
    ∙ shared-under c.args.alphabet.now c.requires.whole w given.word xs x c.args.r s
    (ap (λ o. has (members o) c.args.r) (sym c.loc.ensures) ∙ sym c.has.ensures ∙ c.if-has.false) c.requires.process
