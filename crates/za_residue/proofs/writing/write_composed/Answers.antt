use Rattle.std.proofs.Common.{◌≡◌, ℕ, suc, ◌+◌, ◌^◌, ◌<◌, slice_index, slice_index_or, sym, ap, subst, ◌∙◌, arith}
use Rattle.std.proofs.lemmas.List.{get_or_default}
use Rattle.za_alpha.specs.Procs.{no_process}
use Rattle.za_residue.specs.Functions.{Functions, value_at}
use Rattle.za_residue.specs.Private.Turns.{no_functions}
use Rattle.za_residue.specs.Laws.{in_turn}
use Rattle.za_residue.specs.Private.Turns.{turn_of}
use Rattle.za_residue.proofs.writing.write_composed.Goals as goal

pub function-requires : goal.function-requires
function-requires c =
    let taken = (c.requires.taken 0 c.requires.state).0 in
    let here = c.index-inputs-0.is ∙ get_or_default c.args.inputs.now 0 c.index-inputs-0.result no_functions c.requires.some in
    let P : ℕ → Type 0 = λ n. (slice_index_or c.args.omitted.now 0 no_process).0 < 2 ^ n in
    subst P (sym (ap (λ (f : Functions). f.processes) here)) (taken.sets 0 c.requires.some)

pub copy_from_slice-requires : goal.copy_from_slice-requires
copy_from_slice-requires c =
    let taken = c.requires.taken 0 c.requires.state in
    let here = c.index-inputs-0.is ∙ get_or_default c.args.inputs.now 0 c.index-inputs-0.result no_functions c.requires.some in
    c.requires.block ∙ sym (c.function.ensures.long ∙ ap (λ (f : Functions). f.states) here ∙ taken.0.same 0 c.requires.some ∙ taken.1)

pub bounds-omitted-i : goal.bounds-omitted-i
bounds-omitted-i c =
    let room = (c.requires.taken 0 c.requires.state).0.room in
    let long = c.told-omitted in
    let t = c.loop-i-test.true in
    omega arith

pub function-requires-in-loop-i : goal.function-requires-in-loop-i
function-requires-in-loop-i c =
    let taken = (c.requires.taken 0 c.requires.state).0 in
    let here = c.index-inputs-i.is ∙ get_or_default c.args.inputs.now c.loop-i.i c.index-inputs-i.result no_functions c.loop-i-test.true in
    let P : ℕ → Type 0 = λ n. (slice_index_or c.args.omitted.now c.loop-i.i no_process).0 < 2 ^ n in
    subst P (sym (ap (λ (f : Functions). f.processes) here)) (taken.sets c.loop-i.i c.loop-i-test.true)

pub follow-requires : goal.follow-requires
follow-requires c = λ q l.
    let taken = c.requires.taken 0 c.requires.state in
    let here = c.index-inputs-i.is ∙ get_or_default c.args.inputs.now c.loop-i.i c.index-inputs-i.result no_functions c.loop-i-test.true in
    let states = c.function-in-loop-i.ensures.long ∙ ap (λ (f : Functions). f.states) here ∙ taken.0.same c.loop-i.i c.loop-i-test.true ∙ taken.1 in
    let same = c.loop-i.auto.block in
    let below = (c.loop-i.invariant q (let b = c.requires.block in omega arith)).1 in
    omega arith

pub loop-i-preserved : goal.loop-i-preserved
loop-i-preserved c = λ q l.
    let i : ℕ = c.loop-i.i in
    let taken = c.requires.taken 0 c.requires.state in
    let here = c.index-inputs-i.is ∙ get_or_default c.args.inputs.now i c.index-inputs-i.result no_functions c.loop-i-test.true in
    let states : c.index-inputs-i.result.states ≡ c.args.states = ap (λ (f : Functions). f.states) here ∙ taken.0.same i c.loop-i-test.true ∙ taken.1 in
    let same = c.loop-i.auto.block in
    let size = c.requires.block in
    let was = c.loop-i.invariant q l in
    let value : ℕ = slice_index c.loop-i.block q in
    let below : value < c.index-inputs-i.result.states = let b = was.1 in omega arith in
    let step = c.follow.ensures q (omega arith) in
    let next : suc i ≡ i + 1 = omega arith in
    let P : ℕ → Type 0 = λ v. v < c.args.states in (
      step ∙ c.function-in-loop-i.ensures.values value below
          ∙ ap (λ f. value_at f (slice_index_or c.args.omitted.now i no_process).0 value) here
          ∙ ap (turn_of c.args.inputs.now c.args.omitted.now i) was.0
          ∙ ap (λ k. in_turn (turn_of c.args.inputs.now c.args.omitted.now) k q) next,
      subst P (sym step) (let b = c.function-in-loop-i.ensures.below value below in omega arith),
    )
