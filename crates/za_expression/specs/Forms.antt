-- Forms: plain expressions under intersection and complement.
use Rattle.std.specs.Prelude.{ℕ, Bool, not, ◌&&◌, List}
use Rattle.za_expression.specs.Plain.{Plain, matches}

-- `Part` is a maximal plain part
pub data Form : Type 0 where
  Part : (part : Plain) → Form
  And : (left right : Form) → Form
  Not : (inner : Form) → Form

-- whether the word is in the form's meaning
abbrev pub is_meant : (ℕ → ℕ) → Form → List ℕ → Bool
is_meant letter (Part e) w = matches letter e w
is_meant letter (And a b) w = is_meant letter a w && is_meant letter b w
is_meant letter (Not a) w = not (is_meant letter a w)
