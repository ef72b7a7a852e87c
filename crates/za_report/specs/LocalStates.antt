-- The text that says what each process knows.
use Rattle.std.specs.Prelude.{ℕ, ◌++◌, List, [], ◌∷◌, codes, decimal, length, map, slice_index, Option, Some, None}
use Rattle.std.specs.List.{range_with_len}
use Rattle.za_alpha.specs.Alphabet.{DistributedAlphabet, loc_of}
use Rattle.za_dfa.specs.Tables.{CompleteDfa}
use Rattle.za_order.specs.Views.{participants}
use Rattle.za_order.specs.Entries.{primary}
use Rattle.za_order.specs.Labels.{label}
use Rattle.za_local.specs.Locals.{view_state_after}
use Rattle.za_text.specs.Printed.{text_of}
use Rattle.za_write.specs.Events.{event_word}

-- an event of the word: its letter's name, a point and its label; a hyphen where there is none
abbrev pub entry_word : DistributedAlphabet → List ℕ → Option ℕ → List ℕ
entry_word alphabet w None = codes "-"
entry_word alphabet w (Some i) = event_word alphabet (slice_index w i) (label (loc_of alphabet) alphabet.processes w i)

-- what p knows after the word: the latest event of each process
abbrev pub entry_words : DistributedAlphabet → List ℕ → ℕ → List (List ℕ)
entry_words alphabet w p =
    map (λ q. entry_word alphabet w (primary (participants (loc_of alphabet) w) (length w) p q))
    (range_with_len 0 alphabet.processes)

-- that, and the state after all events that it knows
abbrev pub known_words : CompleteDfa → List ℕ → ℕ → List (List ℕ)
known_words d w p = entry_words d.alphabet w p ++ codes "view" ∷ decimal (view_state_after d w p) ∷ []

-- the line of p
abbrev pub local_line : CompleteDfa → List ℕ → ℕ → List (List ℕ)
local_line d w p = (codes "p" ++ decimal p) ∷ known_words d w p

-- the lines of all processes
abbrev pub locals_text : CompleteDfa → List ℕ → List ℕ
locals_text d w = text_of (map (local_line d w) (range_with_len 0 d.alphabet.processes))
