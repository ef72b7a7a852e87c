use Rattle.std.proofs.Common.{◌≡◌, ◌++◌, take}
use Rattle.za_alpha.specs.Letters.{numbers}
use Rattle.za_closure.proofs.closing.push_all.Given as goal

-- the letters so far are appended
abbrev pub invariant-loop-a : goal.invariant-loop-a
invariant-loop-a l = l.word ≡ l.fn.word ++ numbers (take l.a-index l.letters)
