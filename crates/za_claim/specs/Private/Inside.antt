-- The claim that the fields of a `Claim` mean.
use Rattle.std.specs.Prelude.{◌≤◌, length}
use Rattle.za_claim.specs.declared.claim.Claim.TheInside.{Inside}
use Rattle.za_claim.specs.Claims.{ClaimData}
use Rattle.za_claim.specs.Limits.{most_events}

abbrev pub claim_inside : Inside → ClaimData
claim_inside inside = record { answer = inside.answer; events = inside.events.items }

abbrev pub IsShort : Inside → Type 0
IsShort inside = length inside.events.items ≤ most_events
