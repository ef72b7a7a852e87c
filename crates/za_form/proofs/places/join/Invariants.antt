use Rattle.std.proofs.Common.{◌≡◌, ℕ, ◌<◌, ◌≤◌, ◌&&◌, ◌||◌, get_or}
use Rattle.za_form.specs.Private.Numbers.{has_bit}
use Rattle.za_form.proofs.places.join.Given as goal

abbrev pub invariant-loop-p : goal.invariant-loop-p
invariant-loop-p l = record {
  done : (p q : ℕ) → p < l.p → has_bit (get_or l.rows p 0) q ≡ (has_bit (get_or l.fn.rows p 0) q || (has_bit l.from p && has_bit l.to q));
  rest : (p : ℕ) → l.p ≤ p → get_or l.rows p 0 ≡ get_or l.fn.rows p 0;
}
