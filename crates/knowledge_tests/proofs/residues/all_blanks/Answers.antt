use Rattle.std.proofs.Common.{◌++◌, ◌∷◌, [], map, sym, ap, ◌∙◌, arith}
use Rattle.std.specs.List.{range_with_len}
use Rattle.std.proofs.lemmas.List.FromFn.{map-range_with_len_more}
use Rattle.za_alpha.specs.Alphabet.{DistributedAlphabet, loc_of}
use Rattle.za_dfa.specs.Tables.{CompleteDfa, automaton_of}
use Rattle.za_residue.specs.Residues.{residues_after, table_residues}
use Rattle.knowledge_tests.proofs.residues.all_blanks.Goals as goal

pub loop-preserved : goal.loop-preserved
loop-preserved c =
    let d = c.args.closed.now in
    let f = table_residues d [] in
    let n = c.processes-processes.ensures.value ∙ ap (λ (a : DistributedAlphabet). a.processes)
    (c.alphabet.ensures ∙ ap (λ (d : CompleteDfa). d.alphabet) c.dfa.ensures.value) in
    let k = c.states-states.ensures.value ∙ ap (λ (d : CompleteDfa). d.states) c.dfa-2.ensures.value in
    c.in_ok-push.ensures.items ∙ ap (λ rs. rs ++ c.in_ok-blank.field-0 ∷ []) c.loop.invariant
    ∙ ap (λ r. map f (range_with_len 0 c.loop.counter) ++ r ∷ []) (c.in_ok-blank.ensures.opening (loc_of d.alphabet) (automaton_of d) c.loop.counter (sym k)
    ∙ ap (λ n. residues_after (loc_of d.alphabet) n (automaton_of d) [] c.loop.counter) n)
    ∙ sym (map-range_with_len_more f 0 c.loop.counter c.loop.counter (omega arith))
