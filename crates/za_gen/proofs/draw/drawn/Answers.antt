use Rattle.std.proofs.Common.{◌<◌, ◌++◌, ◌∷◌, [], sym, ap, subst, ◌∙◌}
use Rattle.std.proofs.lemmas.List.Elements.{All-nil, All-push}
use Rattle.za_alpha.specs.Words.{IsWord}
use Rattle.za_gen.specs.Drawn.{stepped, draw_of, letter_drawn, drawn}
use Rattle.za_gen.proofs.Draws.{register-start, register-more, drawn-start, drawn-more}
use Rattle.za_gen.proofs.draw.drawn.Goals as goal

pub loop-init : goal.loop-init
loop-init c =
    record {
      register = c.from-register.ensures ∙ sym (register-start c.args.number);
      word = c.new-word.ensures ∙ sym (drawn-start c.args.number);
      letters = subst (IsWord 8) (sym c.new-word.ensures) (All-nil (λ a. a < 8));
    }

pub loop-preserved : goal.loop-preserved
loop-preserved c =
    let n = c.args.number in
    let i = c.loop.counter in
    let register = c.stepped-register.ensures ∙ ap stepped c.loop.invariant.register ∙ sym (register-more n i) in
    record {
      register = register;
      word = c.in_ok-push.ensures.ok ∙ ap (λ w. w ++ c.letter_drawn.result.0 ∷ []) c.loop.invariant.word
          ∙ ap (λ x. drawn n i ++ x ∷ []) (c.letter_drawn.ensures.value ∙ ap (λ s. letter_drawn (draw_of s)) register) ∙ sym (drawn-more n i);
      letters = subst (IsWord 8) (sym c.in_ok-push.ensures.ok) (All-push
          (λ a. a < 8) c.loop.word c.letter_drawn.result.0 c.loop.invariant.letters c.letter_drawn.ensures.small);
    }
