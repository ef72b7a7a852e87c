use Rattle.std.proofs.Common.{◌≡◌, ℕ, ◌<◌, Bool, false, length, ap, subst, ◌∙◌, arith}
use Rattle.std.specs.List.{range_with_len}
use Rattle.std.proofs.Math.Path.{fun_ext}
use Rattle.std.proofs.lemmas.List.FromFn.{length-map-range_with_len}
use Rattle.za_alpha.specs.Words.{has}
use Rattle.za_alpha.specs.Procs.{members, no_process}
use Rattle.za_alpha.specs.Alphabet.{loc_of}
use Rattle.za_alpha.proofs.Members.{members-zero}
use Rattle.za_dfa.specs.Tables.{CompleteDfa, IsComplete, automaton_of}
use Rattle.za_dfa.proofs.TableLemmas.{total_of_complete}
use Rattle.za_residue.specs.Residues.{table_residues}
use Rattle.za_residue.specs.Laws.{composed}
use Rattle.za_residue.specs.Private.Turns.{AreOmitted}
use Rattle.za_residue.proofs.Inputs.{taken, composed-inputs}
use Rattle.za_residue.proofs.JoinedViews.{residues_decide}
use Rattle.za_residue.proofs.composing.join_all.Goals as goal
use Rattle.za_residue.proofs.composing.join_all.Goals.{After-start-start, After-first_omitted-omitted}

whole : (c : After-start-start) → IsComplete c.args.closed.now
whole c = subst IsComplete c.dfa.ensures.value c.start-start.ensures.whole

pub first_omitted-omitted-requires : goal.first_omitted-omitted-requires
first_omitted-omitted-requires c =
    let d = c.args.closed.now in
    let long = ap length c.requires.1.residues ∙ length-map-range_with_len (table_residues d c.requires.0) 0 d.alphabet.processes in
    let few = (whole (goal.at.first_omitted-omitted-requires c).After-start-start).distributed.few_processes in
    omega arith

-- the sets are those to be left out for the empty set
nothing : (c : After-first_omitted-omitted) → AreOmitted c.args.masks.now c.args.closed.now.alphabet.processes (λ y. false) (length c.args.inputs.now)
    c.first_omitted-omitted.result
nothing c =
    let empty : has (members no_process) ≡ (λ y. false) = fun_ext (λ y. ap (λ ps. has ps y) members-zero) in
    let Q : (ℕ → Bool) → Type 0 = λ set. AreOmitted c.args.masks.now c.args.closed.now.alphabet.processes set (length c.args.inputs.now)
    c.first_omitted-omitted.result in
    subst Q empty (c.first_omitted-omitted.ensures c.args.closed.now.alphabet.processes)

start-below : (c : After-start-start) → c.start-start.result < c.args.closed.now.states
start-below c = let P : CompleteDfa → Type 0 = λ d. c.start-start.result < d.states in subst P c.dfa.ensures.value c.start-start.ensures.within

pub composed-requires : goal.composed-requires
composed-requires c =
    let b = (goal.at.composed-requires c).After-start-start in
    (taken c.args.closed.now (whole b) c.requires.0 (range_with_len 0 c.args.closed.now.alphabet.processes) c.args.inputs.now c.args.masks.now c.requires.1
    c.requires.2 (λ y. false)
    c.first_omitted-omitted.result (nothing (goal.at.composed-requires c).After-first_omitted-omitted) c.start-start.result (start-below b)).0

pub returns : goal.returns
returns c = λ w given shared.
    let b = (goal.at.returns c).After-start-start in
    let none = nothing (goal.at.returns c).After-first_omitted-omitted in
    let d = c.args.closed.now in
    let range = range_with_len 0 d.alphabet.processes in
    c.composed.ensures.value
    ∙ composed-inputs d (whole b) w range c.args.inputs.now c.args.masks.now given shared (λ y. false) c.first_omitted-omitted.result none c.start-start.result
    (start-below b)
    ∙ ap (composed (loc_of d.alphabet) (automaton_of d) d.alphabet.processes w range (λ y. false)) (c.start-start.ensures.value
    ∙ ap (λ (d : CompleteDfa). d.start) c.dfa.ensures.value)
    ∙ residues_decide (loc_of d.alphabet) d.alphabet.processes (automaton_of d) w d.start (whole b).distributed.located (total_of_complete d (whole b))
    c.dfa.ensures.diamonds given.word
    (whole b).starts
