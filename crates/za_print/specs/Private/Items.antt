-- The items of a script, one after the other.
use Rattle.std.specs.Prelude.{ℕ, ◌==◌, Bool, true, false, List, [], ◌∷◌, map}
use Rattle.std.specs.List.{prefix_len}
use Rattle.za_print.specs.Printed.{Run, runs}

-- the maximal runs of one letter, or the letters
abbrev pub runs_by : Bool → List ℕ → List Run
runs_by false script = map (λ (a : ℕ). record { letter = a; count = 1 }) script
runs_by true script = runs script

-- how many letters at the front are the first one
abbrev pub front_run : List ℕ → ℕ
front_run [] = 0
front_run (a ∷ w) = prefix_len (λ b. b == a) (a ∷ w)

-- how many letters the first item has
abbrev pub item_len : Bool → List ℕ → ℕ
item_len false script = 1
item_len true script = front_run script
