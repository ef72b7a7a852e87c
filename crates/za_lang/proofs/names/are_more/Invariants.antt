use Rattle.std.proofs.Common.{◌≡◌, ◌+◌, length}
use Rattle.za_lang.proofs.names.are_more.Given as goal

abbrev pub invariant-loop : goal.invariant-loop
invariant-loop l = length l.initial.words ≡ l.counter + length l.words
