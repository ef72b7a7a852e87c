use Rattle.std.proofs.Common.{◌≡◌, false, length, ap, sym, ◌∙◌, arith}
use Rattle.std.proofs.lemmas.List.FromFn.{length-map-range_with_len, get_or-map-range_with_len}
use Rattle.std.proofs.lemmas.Option.{get_or_from_slice_get}
use Rattle.std.specs.Prelude.{slice_index_or}
use Rattle.za_alpha.specs.Alphabet.{loc_of}
use Rattle.za_order.specs.Views.{participants, in_past}
use Rattle.callers.proofs.pasts.leads_to.Goals as goal

pub has-requires : goal.has-requires
has-requires c =
    let past = in_past (participants (loc_of c.args.alphabet.now) c.args.w.now) c.args.at in
    let long : length c.in_ok-row.row ≡ length c.args.w.now = ap length c.in_ok-row.ensures ∙ length-map-range_with_len past 0 (length c.args.w.now) in
    omega arith

pub returns : goal.returns
returns c =
    let alphabet = c.args.alphabet.now in
    let w = c.args.w.now in
    let past = in_past (participants (loc_of alphabet) w) c.args.at in
    let marked : past c.args.i ≡ c.has.result =
    sym (get_or-map-range_with_len past 0 (length w) c.args.i c.args.i false c.requires.one (omega arith))
    ∙ ap (λ row. slice_index_or row c.args.i false) (sym c.in_ok-row.ensures)
    ∙ get_or_from_slice_get c.in_ok-row.row c.args.i c.has.result false c.has.ensures in
    let chains = c.past_is_chains.ensures.chains (loc_of alphabet) (length alphabet.letters) alphabet.processes w c.args.at c.args.i
    c.letters-letters.ensures.whole.located c.requires.word c.requires.other in
    ((λ yes. chains.0 (marked ∙ yes)), (λ chain. sym marked ∙ chains.1 chain))
