-- Words for the steps of a meeting.
use Rattle.std.specs.Prelude.{ℕ, List, length, Option}
use Rattle.za_alpha.specs.Alphabet.{DistributedAlphabet, loc_of}
use Rattle.za_order.specs.Views.{participants}
use Rattle.za_order.specs.Locals.{best}
use Rattle.za_gossip.specs.Rows.{Rows}
use Rattle.za_payload.specs.Circles.{CircleState}

-- the circle of these rows and numbers
abbrev pub circle_with : DistributedAlphabet → List Rows → List (List (Option ℕ)) → CircleState
circle_with alphabet rows known = record { processes = alphabet.processes; rows = rows; known = known }

-- which participant of the letter has the latest news of q after the word
abbrev pub best_of : DistributedAlphabet → List ℕ → ℕ → ℕ → ℕ
best_of alphabet w a q = best (participants (loc_of alphabet) w) alphabet.processes (length w) (loc_of alphabet a) q
