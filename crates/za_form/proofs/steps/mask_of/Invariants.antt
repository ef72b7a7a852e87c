use Rattle.std.proofs.Common.{◌≡◌, ℕ}
use Rattle.za_form.specs.Private.Numbers.{has_bit}
use Rattle.za_form.proofs.Sets.{is_up_to}
use Rattle.za_form.proofs.steps.mask_of.Given as goal

-- the places so far
abbrev pub invariant-loop-i : goal.invariant-loop-i
invariant-loop-i l = (q : ℕ) → has_bit l.mask q ≡ is_up_to l.form l.a l.i q
