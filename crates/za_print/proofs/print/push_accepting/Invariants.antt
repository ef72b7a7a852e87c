use Rattle.std.proofs.Common.{◌≡◌, ◌++◌, map, filter, decimal}
use Rattle.std.specs.List.{range_with_len}
use Rattle.za_dfa.specs.Partials.{is_accepting}
use Rattle.za_text.specs.Printed.{spaced}
use Rattle.za_print.proofs.print.push_accepting.Given as goal

-- the accepting states so far
abbrev pub invariant-loop-q : goal.invariant-loop-q
invariant-loop-q l = l.text.items ≡ l.initial.text.items ++ spaced (map decimal (filter (is_accepting l.lang.table) (range_with_len 0 l.q)))
