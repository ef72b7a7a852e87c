use Rattle.std.proofs.Common.{ℕ, not, List, [], Option, length, slice_index_or, sym, ap, subst, ◌∙◌, arith}
use Rattle.std.specs.List.{range_with_len}
use Rattle.std.proofs.lemmas.Bool.{and_left, not_from_true}
use Rattle.std.proofs.lemmas.List.{length-map}
use Rattle.za_alpha.specs.Limits.{most_processes}
use Rattle.za_alpha.specs.declared.word.Letter.{Letter}
use Rattle.za_alpha.specs.Words.{has}
use Rattle.za_alpha.specs.declared.procs.Procs.{Procs}
use Rattle.za_alpha.specs.Procs.{members, no_process}
use Rattle.za_alpha.specs.Alphabet.{loc_of}
use Rattle.za_order.proofs.Sets.{in-range}
use Rattle.za_gossip.specs.Rows.{rows_after, AreRowsAfter}
use Rattle.za_residue.specs.declared.masks.Masks.{Masks}
use Rattle.za_residue.specs.Masks.{AreMasksAfter}
use Rattle.za_residue.proofs.Nobody.{nobody-under}
use Rattle.za_local.specs.Private.Shared.{meeting_of}
use Rattle.za_local.proofs.Inputs.{row-length, few-rows}
use Rattle.za_local.proofs.SharedNumbers.{shared-earlier}
use Rattle.za_local.proofs.masks.set_masks.Goals as goal

pub set_earlier-requires-clause-few : goal.set_earlier-requires-clause-few
set_earlier-requires-clause-few c =
    let few = few-rows c.args.alphabet.now c.processes-n.ensures.whole c.requires.rows.0 c.args.a c.requires.letter c.args.inputs.now c.requires.rows.1 in
    let most = c.processes-n.ensures.whole.few_processes in
    omega arith

pub set_earlier-requires-clause-rows : goal.set_earlier-requires-clause-rows
set_earlier-requires-clause-rows c = λ k d l.
    let w = c.requires.rows.1 in
    let e = row-length c.args.alphabet.now c.processes-n.ensures.whole c.requires.rows.0 w.word (meeting_of c.args.alphabet.now c.args.a)
    c.args.inputs.now w.rows k d l in
    let most = c.processes-n.ensures.whole.few_processes in
    omega arith

pub returns-in-None-clause-masks : goal.returns-in-None-clause-masks
returns-in-None-clause-masks c =
    let alphabet = c.args.alphabet.now in
    let n : ℕ = alphabet.processes in
    let xs : List ℕ = range_with_len 0 n in
    let inputs = c.args.inputs.now in
    let masks : Masks = record { earlier = c.set_earlier.new.sets; under = c.args.masks.now.under } in
    let P : Option Letter → Type 0 = λ a. (w : List ℕ) → AreRowsAfter alphabet w (meeting_of alphabet a) inputs →
    AreMasksAfter alphabet w (meeting_of alphabet a) masks in
    subst P (sym c.in-None.is)
    (λ w given.
    let long = ap length given.rows ∙ length-map xs (rows_after (loc_of alphabet) n w) in
    record {
      earlier = λ i s l. c.set_earlier.ensures i s (omega arith)
          ∙ shared-earlier alphabet c.processes-n.ensures.whole w given.word xs inputs given.rows i s (omega arith);
      under = λ i r s l k.
          ap (λ (rows : List (List Procs)). has (members (slice_index_or (slice_index_or rows i []) r no_process)) s) c.requires.none
          ∙ nobody-under most_processes most_processes i r s ∙ sym (and_left (not (has xs r)) _ (not_from_true (has xs r) (in-range n r k)));
    })

pub returns-in-Some-clause-masks : goal.returns-in-Some-clause-masks
returns-in-Some-clause-masks c =
    let alphabet = c.args.alphabet.now in
    let xs : List ℕ = loc_of alphabet c.in-Some.a.0 in
    let inputs = c.args.inputs.now in
    let masks : Masks = record { earlier = c.set_earlier.new.sets; under = c.set_under.new.rows } in
    let P : Option Letter → Type 0 = λ a. (w : List ℕ) → AreRowsAfter alphabet w (meeting_of alphabet a) inputs →
    AreMasksAfter alphabet w (meeting_of alphabet a) masks in
    subst P (sym c.in-Some.is)
    (λ w given.
    let long = ap length given.rows ∙ length-map xs (rows_after (loc_of alphabet) alphabet.processes w) in
    record {
      earlier = λ i s l. c.set_earlier.ensures i s (omega arith)
          ∙ shared-earlier alphabet c.processes-n.ensures.whole w given.word xs inputs given.rows i s (omega arith);
      under = λ i r s l k. c.set_under.ensures w given i r s (omega arith) k;
    })
