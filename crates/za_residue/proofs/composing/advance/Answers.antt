use Rattle.std.proofs.Common.{◌≡◌, ℕ, ◌*◌, ◌^◌, [], ◌∷◌, ◌++◌, length, get_or, sym, ap, subst, ◌∙◌, arith}
use Rattle.std.specs.Vec.{with_items}
use Rattle.std.proofs.lemmas.List.{with_items_is}
use Rattle.za_alpha.specs.declared.procs.Procs.{Procs}
use Rattle.za_alpha.specs.Words.{has}
use Rattle.za_alpha.specs.Procs.{members, no_process}
use Rattle.za_alpha.specs.Alphabet.{DistributedAlphabet}
use Rattle.za_dfa.specs.Tables.{CompleteDfa, IsComplete}
use Rattle.za_residue.specs.Functions.{Functions}
use Rattle.za_residue.specs.Inside.{functions_in}
use Rattle.za_residue.specs.Residues.{table_residues}
use Rattle.za_residue.specs.Private.Turns.{AreOmitted}
use Rattle.za_residue.specs.Private.Written.{AreGiven, AreWritten}
use Rattle.za_residue.proofs.Written.{same-functions, few-inputs, written-all, written-below}
use Rattle.za_residue.proofs.composing.advance.Goals as goal
use Rattle.za_residue.proofs.composing.advance.Goals.{After-set_column, After-write_sets}

pub first_omitted-omitted-requires : goal.first_omitted-omitted-requires
first_omitted-omitted-requires c =
    let whole : IsComplete c.args.closed.now = c.set_column.ensures.whole in
    let few = whole.distributed.few_processes in
    let given : AreGiven c.args.closed.now c.args.a.0 c.args.inputs.now c.args.masks.now c.requires.given.0 =
    record { residues = c.requires.given.1; shared = c.requires.given.2 } in
    let l = few-inputs c.args.closed.now whole c.dfa.ensures.diamonds c.args.a.0 c.requires.letter c.args.inputs.now c.args.masks.now c.requires.given.0 given
    in
    omega arith

pub write_sets-requires-clause-omitted : goal.write_sets-requires-clause-omitted
write_sets-requires-clause-omitted c =
    let n : ℕ = c.args.closed.now.alphabet.processes in
    let P : Procs → Type 0 = λ set. AreOmitted c.args.masks.now n (has (members set)) (length c.args.inputs.now) c.first_omitted-omitted.result in
    subst P (sym c.none.ensures.value) (c.first_omitted-omitted.ensures n)

-- how many values there are
long : (c : After-write_sets) → length c.write_sets.new.block ≡ 2 ^ c.args.closed.now.alphabet.processes * c.args.closed.now.states
long c =
    let d = c.args.closed.now in
    let processes : c.into.inside.processes ≡ d.alphabet.processes = ap (λ (f : Functions). f.processes) c.into.view_is ∙ c.requires.processes in
    let states : c.into.inside.states ≡ d.states = ap (λ (f : Functions). f.states) c.into.view_is ∙ c.requires.states in
    c.write_sets.auto.block ∙ ap length c.as_mut_slice.ensures.value ∙ c.into.invariant.values_length
    ∙ ap (λ p. 2 ^ p * c.into.inside.states) processes ∙ ap (λ k. 2 ^ d.alphabet.processes * k) states

-- they are the values after the event
written : (c : After-write_sets) → AreWritten c.args.closed.now c.args.a.0 c.args.inputs.now c.args.masks.now (has (members no_process))
    (2 ^ c.args.closed.now.alphabet.processes) c.write_sets.new.block
written c =
    let d = c.args.closed.now in
    let processes : c.processes-processes.result ≡ d.alphabet.processes =
    c.processes-processes.ensures.value ∙ ap (λ (a : DistributedAlphabet). a.processes)
    (c.alphabet.ensures ∙ ap (λ (d : CompleteDfa). d.alphabet) c.dfa.ensures.value) in
    let P : Procs → Type 0 = λ set. AreWritten d c.args.a.0 c.args.inputs.now c.args.masks.now (has (members set)) (2 ^ c.processes-processes.result)
    c.write_sets.new.block in
    let Q : ℕ → Type 0 = λ p. AreWritten d c.args.a.0 c.args.inputs.now c.args.masks.now (has (members no_process)) (2 ^ p) c.write_sets.new.block in
    subst Q processes (subst P c.none.ensures.value c.write_sets.ensures)

items : (c : After-write_sets) → (with_items c.into.inside.values c.write_sets.new.block).items ≡ c.write_sets.new.block
items c = with_items_is c.into.inside.values c.write_sets.new.block (c.write_sets.auto.block ∙ ap length c.as_mut_slice.ensures.value
    ∙ sym c.into.inside.values.ok.0)

pub invariant_of-into : goal.invariant_of-into
invariant_of-into c =
    let d = c.args.closed.now in
    let b = (goal.at.invariant_of-into c).After-write_sets in
    let whole : IsComplete d = c.set_column.ensures.whole in
    let states : c.into.inside.states ≡ d.states = ap (λ (f : Functions). f.states) c.into.view_is ∙ c.requires.states in
    let same = items b in
    record {
      few_processes = c.into.invariant.few_processes;
      few_states = c.into.invariant.few_states;
      values_length = ap length same ∙ c.write_sets.auto.block ∙ ap length c.as_mut_slice.ensures.value ∙ c.into.invariant.values_length;
      values_below = λ k v l.
          let size : length c.write_sets.new.block ≡ length (with_items c.into.inside.values c.write_sets.new.block).items = ap length (sym same) in
          let below = written-below d whole c.dfa.ensures.diamonds c.args.a.0 c.requires.letter c.args.inputs.now c.args.masks.now c.write_sets.new.block
          (long b) (written b) k v (omega arith) in
          let at = ap (λ xs. get_or xs k v) same in
          omega arith;
    }

pub returns : goal.returns
returns c = λ w residues shared x h.
    let d = c.args.closed.now in
    let b = (goal.at.returns c).After-write_sets in
    let whole : IsComplete d = c.set_column.ensures.whole in
    let processes : c.into.inside.processes ≡ d.alphabet.processes = ap (λ (f : Functions). f.processes) c.into.view_is ∙ c.requires.processes in
    let states : c.into.inside.states ≡ d.states = ap (λ (f : Functions). f.states) c.into.view_is ∙ c.requires.states in
    same-functions
    (functions_in (record {
      processes = c.into.inside.processes;
      states = c.into.inside.states;
      values =
          with_items c.into.inside.values c.write_sets.new.block;
    }))
    (table_residues d (w ++ c.args.a.0 ∷ []) x) processes states
    (items b
    ∙ written-all d whole c.dfa.ensures.diamonds c.args.a.0 c.requires.letter c.args.inputs.now c.args.masks.now c.write_sets.new.block (long b)
    (written b) w (record { residues = residues; shared = shared }) x h)
