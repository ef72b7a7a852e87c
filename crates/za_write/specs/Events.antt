-- Events as words.
use Rattle.std.specs.Prelude.{ℕ, ◌+◌, ◌-◌, ◌/◌, ◌%◌, ◌^◌, ◌==◌, ◌++◌, List, codes, decimal, if◌then◌else◌}
use Rattle.za_alpha.specs.Alphabet.{DistributedAlphabet, name_at}

-- an event by its letter and its label: the letter's name, a point and the label
abbrev pub event_word : DistributedAlphabet → ℕ → ℕ → List ℕ
event_word alphabet letter label = name_at alphabet.letters letter ++ codes "." ++ decimal label

-- an event by its number, which is that of a letter and a label; a hyphen for 0
abbrev pub number_word : DistributedAlphabet → ℕ → List ℕ
number_word alphabet v =
    let labels = alphabet.processes ^ 3 + 1 in
    if v == 0 then codes "-" else event_word alphabet ((v - 1) / labels) ((v - 1) % labels)
