use Rattle.std.proofs.Common.{ℕ, ◌++◌, ◌∷◌, [], Vec, Global, map, sym, ap, ◌∙◌, arith}
use Rattle.za_alpha.specs.Procs.{members_below}
use Rattle.za_alpha.specs.Alphabet.{DistributedAlphabet, loc_of}
use Rattle.za_alpha.proofs.Members.{members_below-zero}
use Rattle.za_order.proofs.Rising.{map-members-in, map-members-out}
use Rattle.za_dfa.specs.Tables.{CompleteDfa, automaton_of}
use Rattle.za_residue.specs.Functions.{Functions}
use Rattle.za_residue.specs.Residues.{residues_after, table_residues}
use Rattle.knowledge_tests.proofs.residues.blanks.Goals as goal
use Rattle.knowledge_tests.proofs.residues.blanks.Goals.{then-has+in_ok-blank+in_ok-push, else-has}

pub loop-x-init : goal.loop-x-init
loop-x-init c = c.new-all.ensures.items ∙ sym (ap (map (table_residues c.args.closed.now [])) (members_below-zero c.args.participants))

pub loop-x-preserved : goal.loop-x-preserved
loop-x-preserved c =
    let d = c.args.closed.now in
    let f = table_residues d [] in
    let x : ℕ = c.loop-x.x in
    let n = c.processes-processes.ensures.value ∙ ap (λ (a : DistributedAlphabet). a.processes)
    (c.alphabet.ensures ∙ ap (λ (d : CompleteDfa). d.alphabet) c.dfa.ensures.value) in
    let k = c.states-states.ensures.value ∙ ap (λ (d : CompleteDfa). d.states) c.dfa-2.ensures.value in
    let few = c.processes-processes.ensures.whole.few_processes in
    let m = c.processes-processes.ensures.value in
    let t = c.loop-x-test.true in
    elim c.if-has.branch [
      | then-has+in_ok-blank+in_ok-push w ↦
          ap (λ (v : Vec Functions Global). v.items) w.all-is ∙ w.in_ok-push.ensures.items ∙ ap (λ rs. rs ++ w.in_ok-blank.field-0 ∷ []) c.loop-x.invariant
          ∙ ap (λ r. map f (members_below c.args.participants x) ++ r ∷ []) (w.in_ok-blank.ensures.opening (loc_of d.alphabet) (automaton_of d) x (sym k)
          ∙ ap (λ n. residues_after (loc_of d.alphabet) n (automaton_of d) [] x) n)
          ∙ sym (map-members-in f c.args.participants x (omega arith) (sym c.has.ensures ∙ w.if-has.true))
      | else-has w ↦
          ap (λ (v : Vec Functions Global). v.items) w.all-is ∙ c.loop-x.invariant
          ∙ sym (map-members-out f c.args.participants x (omega arith) (sym c.has.ensures ∙ w.if-has.false))
    ]
