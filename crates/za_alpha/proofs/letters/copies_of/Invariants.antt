use Rattle.std.proofs.Common.{◌≡◌, take, map}
use Rattle.za_alpha.specs.Private.Begun.{letter_of_entry}
use Rattle.za_alpha.proofs.letters.copies_of.Given as goal

-- the entries so far are copied
abbrev pub invariant-loop-entry : goal.invariant-loop-entry
invariant-loop-entry l = map letter_of_entry l.copies.items ≡ map letter_of_entry (take l.entry-index l.entries)
