use Rattle.std.proofs.Common.{◌≡◌, ◌++◌, map, take}
use Rattle.za_text.specs.Printed.{text_of}
use Rattle.za_print.specs.Printed.{letter_line}
use Rattle.za_print.proofs.print.push_letters.Given as goal

-- the lines of the letters so far
abbrev pub invariant-loop-a : goal.invariant-loop-a
invariant-loop-a l = l.text.items ≡ l.initial.text.items ++ text_of (map (letter_line l.names) (take l.a l.alphabet.letters))
