use Rattle.std.proofs.Common.{◌∷◌, [], take, get_or, sym, ap, ◌∙◌, arith}
use Rattle.za_alpha.specs.Letters.{numbers}
use Rattle.za_dfa.specs.Automata.{walk}
use Rattle.za_dfa.proofs.Diamonds.{walk-append}
use Rattle.za_gen.specs.Generated.{next_state}
use Rattle.za_gen.proofs.Letters.{no_letter, letters-step}
use Rattle.za_gen.proofs.job.reached.Goals as goal

pub loop-a-preserved : goal.loop-a-preserved
loop-a-preserved c =
    let letters = c.letters-letters.result.now in
    let i = c.loop-a.a-index in
    let a = (get_or letters i no_letter).0 in
    record {
      small = c.next_state-q.ensures.small;
      there = c.next_state-q.ensures.value ∙ ap (λ q. next_state q a) c.loop-a.invariant.there
          ∙ sym (walk-append next_state 0 (take i (numbers letters)) (a ∷ []))
          ∙ ap (walk next_state 0) (sym (letters-step letters i (omega arith)));
    }
