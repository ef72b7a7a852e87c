use Rattle.std.proofs.Common.{◌≡◌, ℕ, true, false, Bool, List, slice_index_or, replicate, refl, sym, ap, ◌∙◌, arith}
use Rattle.std.proofs.lemmas.Bool.{cases_lt}
use Rattle.std.proofs.lemmas.List.{length-map, get_or-replicate, get_or_past, length-replicate}
use Rattle.std.proofs.Common.{inl, inr}
use Rattle.za_alpha.specs.Procs.{members}
use Rattle.za_ids.specs.declared.ids.EventId.{EventId}
use Rattle.za_ids.specs.Numbers.{event_numbers}
use Rattle.za_ids.proofs.Columns.{all-marked}
use Rattle.za_ids.proofs.labels.mark_columns.Goals as goal

-- no place is marked
none-marked : (n k : ℕ) → slice_index_or (replicate n false) k false ≡ false
none-marked n k = elim (cases_lt k n) [
  | inl l ↦ get_or-replicate n k false false l
  | inr g ↦ get_or_past (replicate n false) k false (let e = length-replicate n false in omega arith)
]

pub loop-s-init : goal.loop-s-init
loop-s-init c = record {
  size = refl;
  marked = λ i s k li ls. absurd (omega arith);
  sound = λ k l t. absurd (let f = ap (λ (xs : List Bool). slice_index_or xs k false) c.requires.none ∙ none-marked 1002 k in let z : true ≡ false = sym t
      ∙ f in cc);
}

pub returns-clause-marks : goal.returns-clause-marks
returns-clause-marks c =
    let n : ℕ = c.args.n in
    let end = c.loop-s-test.false in
    let some = c.requires.some_process in
    all-marked n c.args.a.0 some (members c.args.processes) (event_numbers c.args.ids.now) c.requires.columns
    (length-map c.args.ids.now (λ (id : EventId). id.0) ∙ c.requires.numbers) c.loop-s.taken c.id_of-first.result.0 c.label_count-labels.result
    c.id_of-first.ensures c.label_count-labels.ensures.value (λ i s k li ls own lk e. c.loop-s.invariant.marked i s k li (omega arith) own lk e)
    c.loop-s.invariant.sound
