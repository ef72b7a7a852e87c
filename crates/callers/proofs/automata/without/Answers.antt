use Rattle.std.proofs.Common.{ap, ◌∙◌}
use Rattle.za_dfa.specs.Rows.{target_in}
use Rattle.callers.proofs.WithoutLetter.{completed-without}
use Rattle.callers.proofs.automata.without.Goals as goal

pub returns : goal.returns
returns c =
    completed-without _ _ c.args.alphabet c.in_ok-accepting.accepting.items c.as_slice.result.now c.args.a.0 c.letters.result c.complete.result c.requires
    c.letters.ensures.value c.in_ok-accepting.ensures
    (λ q b. ap (λ rows. target_in rows q b) c.as_slice.ensures.value ∙ c.in_ok-rows.ensures.targets q b) c.complete.ensures
