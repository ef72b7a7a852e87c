use Rattle.std.proofs.Common.{◌≡◌, ◌≤◌, ◌+◌, ◌*◌, ◌-◌, ◌^◌, drop}
use Rattle.std.specs.Prelude.{fold}
use Rattle.za_text.specs.Numbers.{value_of}
use Rattle.za_text.proofs.numeral.value.Given as goal

abbrev pub invariant-loop-digit : goal.invariant-loop-digit
invariant-loop-digit l = (l.value + 29 ≤ 29 * 10 ^ l.digit-index)
    × (fold (λ v digit. v * 10 + (digit - 48)) l.value (drop l.digit-index l.digits) ≡ value_of l.digits)
