use Rattle.std.proofs.Common.{◌≡◌, ◌++◌, map}
use Rattle.std.specs.List.{range_with_len}
use Rattle.za_text.specs.Printed.{spaced}
use Rattle.za_payload.specs.Circles.{known_in}
use Rattle.za_news.specs.Texts.{known_word}
use Rattle.za_news.proofs.text.push_all_known.Given as goal

-- what is known of the processes so far
abbrev pub invariant-loop-q : goal.invariant-loop-q
invariant-loop-q l = l.text.items ≡ l.initial.text.items ++ spaced (map (λ q. known_word (known_in l.circle.known l.p q)) (range_with_len 0 l.q))
