use Rattle.std.proofs.Common.{◌≡◌, ◌++◌, map}
use Rattle.std.specs.List.{range_with_len}
use Rattle.za_text.specs.Printed.{text_of}
use Rattle.za_text.specs.ProcessNames.{name_of}
use Rattle.za_payload.specs.Circles.{known_in}
use Rattle.za_news.specs.Texts.{line_of_known}
use Rattle.za_news.proofs.text.push_lines.Given as goal

-- the lines of the processes so far
abbrev pub invariant-loop-p : goal.invariant-loop-p
invariant-loop-p l =
    l.text.items ≡ l.initial.text.items
    ++ text_of (map (λ p. line_of_known (name_of l.names p) l.processes (known_in l.circle.known p)) (range_with_len 0 l.p))
