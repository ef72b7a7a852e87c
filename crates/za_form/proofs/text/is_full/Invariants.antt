use Rattle.std.proofs.Common.{◌≡◌, ◌+◌, length}
use Rattle.za_text.specs.Words.{words_of, left_in}
use Rattle.za_form.proofs.text.is_full.Given as goal

-- the tokens that have come and those that are left are all
abbrev pub invariant-loop : goal.invariant-loop
invariant-loop l = l.counter + length (left_in l.tokens) ≡ length (words_of l.text)
