use Rattle.std.proofs.Common.{◌≡◌, [], map, ap, subst, ◌∙◌, arith}
use Rattle.za_alpha.specs.declared.procs.Procs.{Procs}
use Rattle.za_alpha.specs.Procs.{members_below}
use Rattle.za_alpha.specs.Alphabet.{DistributedAlphabet, IsDistributed, loc_of, procs_at}
use Rattle.za_order.proofs.Rising.{members-fit}
use Rattle.za_dfa.specs.Tables.{CompleteDfa}
use Rattle.za_residue.specs.Residues.{table_residues}
use Rattle.za_residue.specs.Masks.{AreResiduesAfter}
use Rattle.knowledge_tests.proofs.FirstEvents.{first-residues, first-masks}
use Rattle.knowledge_tests.proofs.residues.first_event.Goals as goal
use Rattle.knowledge_tests.proofs.residues.first_event.Goals.{After-as_slice}

given : (c : After-as_slice) → AreResiduesAfter c.args.closed.now [] (loc_of c.args.closed.now.alphabet c.args.a.0) c.as_slice.result.now
given c =
    let d = c.args.closed.now in
    let f = table_residues d [] in
    let first : c.alphabet.result.now ≡ d.alphabet = c.alphabet.ensures ∙ ap (λ (d : CompleteDfa). d.alphabet) c.dfa.ensures.value in
    let second : c.alphabet-2.result.now ≡ d.alphabet = c.alphabet-2.ensures ∙ ap (λ (d : CompleteDfa). d.alphabet) c.dfa-2.ensures.value in
    let whole = subst IsDistributed first c.processes-processes.ensures.whole in
    let few = whole.few_processes in
    let set : Procs = procs_at d.alphabet.letters c.args.a.0 in
    let same : c.loc.result ≡ set = c.loc.ensures ∙ ap (λ (al : DistributedAlphabet). procs_at al.letters c.args.a.0) second in
    first-residues d (loc_of d.alphabet c.args.a.0) c.as_slice.result.now
    (c.as_slice.ensures.value ∙ c.in_ok-inputs.ensures ∙ ap (λ s. map f (members_below s d.alphabet.processes)) same
    ∙ ap (map f) (members-fit set d.alphabet.processes (omega arith) (λ p h. whole.located.below c.args.a.0 p c.requires h)))

pub advance-requires-clause-given : goal.advance-requires-clause-given
advance-requires-clause-given c =
    let d = c.args.closed.now in
    ([], given (goal.at.advance-requires-clause-given c).After-as_slice, first-masks d.alphabet (loc_of d.alphabet c.args.a.0))

pub returns : goal.returns
returns c =
    let d = c.args.closed.now in
    c.advance.ensures [] (given (goal.at.returns c).After-as_slice) (first-masks d.alphabet (loc_of d.alphabet c.args.a.0))
