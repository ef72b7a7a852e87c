use Rattle.std.proofs.Common.{[], ◌∙◌}
use Rattle.std.specs.List.{range_with_len}
use Rattle.knowledge_tests.proofs.FirstEvents.{first-residues, first-masks}
use Rattle.knowledge_tests.proofs.residues.first_state.Goals as goal

pub join_all-requires : goal.join_all-requires
join_all-requires c =
    let d = c.args.closed.now in
    let range = range_with_len 0 d.alphabet.processes in
    ([], first-residues d range c.as_slice.result.now (c.as_slice.ensures.value ∙ c.in_ok-inputs.ensures), first-masks d.alphabet range)

pub returns : goal.returns
returns c =
    let d = c.args.closed.now in
    let range = range_with_len 0 d.alphabet.processes in
    c.join_all.ensures [] (first-residues d range c.as_slice.result.now (c.as_slice.ensures.value ∙ c.in_ok-inputs.ensures)) (first-masks d.alphabet range)
