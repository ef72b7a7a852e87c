use Rattle.std.proofs.Common.{ℕ, List, ◌∙◌, ◌++◌, [], ◌∷◌, ap, map, true}
use Rattle.std.specs.List.{range_with_len}
use Rattle.za_alpha.proofs.Members.{range-below-more}
use Rattle.za_text.specs.Printed.{spaced}
use Rattle.za_payload.specs.Circles.{known_in}
use Rattle.za_write.proofs.Lines.{one-more, spaced-more}
use Rattle.za_news.specs.Texts.{known_word}
use Rattle.za_news.proofs.text.push_all_known.Goals as goal

pub loop-q-preserved : goal.loop-q-preserved
loop-q-preserved c =
    let q = c.loop-q.q in
    let word : ℕ → List ℕ = λ q. known_word (known_in c.args.circle.now.known c.args.p q) in
    one-more _ _ _ _ _ _ c.loop-q.invariant
    (c.in_ok-push_known.ensures ∙ ap (λ k. c.loop-q.text.items ++ spaced (known_word k ∷ [])) c.known.ensures.value)
    (ap (λ qs. spaced (map word qs)) (range-below-more q) ∙ spaced-more word (range_with_len 0 q) true q)
