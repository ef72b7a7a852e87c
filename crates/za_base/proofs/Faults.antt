-- Laws of counts of faults.
use Rattle.std.proofs.Common.{◌≤◌, ℕ, arith}
use Rattle.za_base.specs.Fault.{Rises}

-- a count that never falls and then rises has risen
pub Rises-after : (before mid after : ℕ) → before ≤ mid → Rises mid after → Rises before after
Rises-after before mid after h r = omega arith

-- a count that rises and then never falls has risen
pub Rises-kept : (before mid after : ℕ) → Rises before mid → mid ≤ after → Rises before after
Rises-kept before mid after r h = omega arith
