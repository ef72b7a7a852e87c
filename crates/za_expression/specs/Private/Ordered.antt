-- Occurrences in the order of the text.
use Rattle.std.specs.Prelude.{ℕ, ◌≤◌, ◌<◌}
use Rattle.za_expression.specs.Plain.{Plain, One, Occurrence, Sequence, Or, Star}
use Rattle.za_expression.specs.Forms.{Form, Part, And, Not}

-- the occurrences are from low on and below high, in the order of the text
abbrev pub Within : ℕ → Plain → ℕ → Type 0
Within low One high = low ≤ high
Within low (Occurrence p) high = (low ≤ p) × (p < high)
Within low (Sequence a b) high = (middle : ℕ) × Within low a middle × Within middle b high
Within low (Or a b) high = (middle : ℕ) × Within low a middle × Within middle b high
Within low (Star a) high = Within low a high

abbrev pub Spans : ℕ → Form → ℕ → Type 0
Spans low (Part e) high = Within low e high
Spans low (And a b) high = (middle : ℕ) × Spans low a middle × Spans middle b high
Spans low (Not a) high = Spans low a high
