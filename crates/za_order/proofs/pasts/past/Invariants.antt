use Rattle.std.proofs.Common.{length}
use Rattle.za_alpha.specs.Letters.{numbers}
use Rattle.za_alpha.specs.Procs.{members}
use Rattle.za_alpha.specs.Alphabet.{loc_of}
use Rattle.za_order.specs.Views.{participants}
use Rattle.za_order.proofs.Marking.{IsMarkedFrom}
use Rattle.za_order.proofs.pasts.past.Given as goal

-- what is below i is still to be marked
abbrev pub invariant-loop-i : goal.invariant-loop-i
invariant-loop-i l = IsMarkedFrom (participants (loc_of l.alphabet) (numbers l.letters)) l.at (length l.letters) l.i (members l.known) l.marks.items
