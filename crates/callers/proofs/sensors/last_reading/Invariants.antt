use Rattle.std.proofs.Common.{take}
use Rattle.za_alpha.specs.Letters.{numbers}
use Rattle.za_payload.specs.Circles.{IsCircleAfter}
use Rattle.callers.proofs.sensors.last_reading.Given as goal

-- the circle is that after the first i meetings
abbrev pub invariant-loop-i : goal.invariant-loop-i
invariant-loop-i l = IsCircleAfter l.alphabet (take l.i (numbers l.letters)) (take l.i l.readings) l.circle
