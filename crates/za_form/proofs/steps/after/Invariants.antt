use Rattle.std.proofs.Common.{◌≡◌, ℕ, ◌&&◌, get_or}
use Rattle.std.specs.List.{list_any, range_with_len}
use Rattle.za_form.specs.Private.Numbers.{has_bit}
use Rattle.za_form.proofs.steps.after.Given as goal

-- the rows of the places so far, together
abbrev pub invariant-loop-p : goal.invariant-loop-p
invariant-loop-p l = (q : ℕ) → has_bit l.all q ≡ list_any (λ p. has_bit l.m p && has_bit (get_or l.rows p 0) q) (range_with_len 0 l.p)
