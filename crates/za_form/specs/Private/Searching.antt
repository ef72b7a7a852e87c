-- The values that words have, found breadth first.
use Rattle.std.specs.Prelude.{◌≡◌, ◌≢◌, ℕ, ◌+◌, ◌*◌, ◌<◌, ◌≤◌, ◌⊎◌, List, [], ◌∷◌, ◌++◌, length, slice_index}
use Rattle.za_dfa.specs.Limits.{most_states}
use Rattle.za_dfa.specs.Automata.{Automaton}
use Rattle.za_form.specs.declared.search.Found.{Found}
use Rattle.za_min.specs.Private.Exploring.{IsDone, AreFoundStates}

-- t is the place of the state that letter b leads to from the state at place k
pub record IsCell (d : Automaton) (states : List ℕ) (k b t : ℕ) : Type 0 where
  pub within : t < length states
  pub there : slice_index states t ≡ d.step (slice_index states k) b

-- targets of the letters below a of place i, and of all letters of the places before it
pub record AreCells (d : Automaton) (i a : ℕ) (states targets : List ℕ) : Type 0 where
  pub many : length targets ≡ i * d.letters + a
  pub each : (k b : ℕ) → IsDone i a k b → b < d.letters → IsCell d states k b (slice_index targets (k * d.letters + b))

-- the states that are found by words, and their targets
pub record IsSearch (d : Automaton) (i a : ℕ) (words : List (List ℕ)) (states targets : List ℕ) : Type 0 where
  pub found : AreFoundStates d i a words states
  pub few : length states ≤ most_states
  pub cells : AreCells d i a states targets

abbrev pub HasSearched : Automaton → ℕ → ℕ → List ℕ → List ℕ → Type 0
HasSearched d i a states targets = (words : List (List ℕ)) × IsSearch d i a words states targets

-- all letters of all places are done
abbrev pub HasSearchedAll : Automaton → List ℕ → List ℕ → Type 0
HasSearchedAll d states targets = HasSearched d (length states) 0 states targets

-- the value isn't among the states
abbrev pub IsNew : List ℕ → ℕ → Type 0
IsNew states value = (k : ℕ) → k < length states → slice_index states k ≢ value

-- k is the place of the value, which is added where it is new
pub record IsKnown (old new : List ℕ) (value k : ℕ) : Type 0 where
  pub same : new ≡ old
  pub within : k < length old
  pub there : slice_index old k ≡ value

pub record IsAdded (old new : List ℕ) (value k : ℕ) : Type 0 where
  pub nowhere : IsNew old value
  pub room : length old < most_states
  pub more : new ≡ old ++ value ∷ []
  pub last : k ≡ length old

abbrev pub IsPlaced : List ℕ → List ℕ → ℕ → ℕ → Type 0
IsPlaced old new value k = IsKnown old new value k ⊎ IsAdded old new value k

-- there is no room for the value
pub record IsLeftOut (states : List ℕ) (value : ℕ) : Type 0 where
  pub nowhere : IsNew states value
  pub full : length states ≡ most_states

-- one letter more leads to the value
abbrev pub EntersTarget : Found → Found → ℕ → Type 0
EntersTarget old new value =
    (k : ℕ) × IsPlaced old.states.items new.states.items value k × (new.targets.items ≡ old.targets.items ++ k ∷ [])
