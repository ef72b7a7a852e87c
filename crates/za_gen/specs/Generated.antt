-- The generated job.
use Rattle.std.specs.Prelude.{ℕ, ◌+◌, ◌-◌, ◌*◌, ◌/◌, ◌%◌, ◌==◌, ◌||◌, Bool, List, [], ◌∷◌, map, codes, if◌then◌else◌}
use Rattle.std.specs.List.{range_with_len}
use Rattle.za_alpha.specs.Words.{projection}
use Rattle.za_alpha.specs.Rows.{set_of}
use Rattle.za_alpha.specs.Alphabet.{NamedLetter, DistributedAlphabet, loc_of}
use Rattle.za_dfa.specs.Automata.{walk}
use Rattle.za_dfa.specs.Tables.{CompleteDfa, table_with}
use Rattle.za_dfa.specs.Partials.{whole_of}
use Rattle.za_text.specs.ProcessNames.{numbered}
use Rattle.za_lang.specs.declared.version.Version.TheVariants.{One}
use Rattle.za_lang.specs.Jobs.{JobData}
use Rattle.za_lang.specs.Namings.{Naming}
use Rattle.za_print.specs.Printed.{printed}
use Rattle.za_gen.specs.Limits.{letters_drawn}
use Rattle.za_gen.specs.Drawn.{drawn}

-- a letter by its name and the list of its processes
pub record ListedLetter : Type 0 where
  pub name : List ℕ
  pub processes : List ℕ

abbrev pub listed : List ℕ → List ℕ → ListedLetter
listed name processes = record { name = name; processes = processes }

-- a letter of each of four processes, and a letter of each two neighbours in their ring
abbrev pub letter_list : List ListedLetter
letter_list =
    listed (codes "a") (0 ∷ []) ∷ listed (codes "b") (1 ∷ []) ∷ listed (codes "c") (2 ∷ [])
    ∷ listed (codes "d") (3 ∷ []) ∷ listed (codes "e") (0 ∷ 1 ∷ []) ∷ listed (codes "f") (1 ∷ 2 ∷ [])
    ∷ listed (codes "g") (2 ∷ 3 ∷ []) ∷ listed (codes "h") (0 ∷ 3 ∷ []) ∷ []

abbrev pub named : ListedLetter → NamedLetter
named letter = record { name = letter.name; loc = set_of letter.processes }

abbrev pub generated_alphabet : DistributedAlphabet
generated_alphabet = record { processes = 4; letters = map named letter_list }

-- state q is 4 * u + v: c and d turn u, and g sets it to 0
abbrev pub next_u : ℕ → ℕ → ℕ
next_u u a = if a == 2 || a == 3 then 1 - u else (if a == 6 then 0 else u)

-- a counts v up and b down, modulo 4, and e sets it to 0
abbrev pub next_v : ℕ → ℕ → ℕ
next_v v a = if a == 0 then (v + 1) % 4 else (if a == 1 then (v + 3) % 4 else (if a == 4 then 0 else v))

abbrev pub next_state : ℕ → ℕ → ℕ
next_state q a = 4 * next_u (q / 4) a + next_v (q % 4) a

-- where each of the eight letters leads from each of the eight states
abbrev pub generated_targets : List ℕ
generated_targets = map (λ i. next_state (i / 8) (i % 8)) (range_with_len 0 64)

-- one state accepts
abbrev pub accepting_at : ℕ → List Bool
accepting_at reached = map (λ q. q == reached) (range_with_len 0 8)

-- the automaton of a word: it starts at 0, and accepts where the word leads
abbrev pub generated_dfa : List ℕ → CompleteDfa
generated_dfa word = table_with generated_alphabet 0 (accepting_at (walk next_state 0 word)) generated_targets

-- the scripts of a word: what each process sees of it
abbrev pub generated_scripts : List ℕ → List (List ℕ)
generated_scripts word = map (λ p. projection (loc_of generated_alphabet) p word) (range_with_len 0 4)

-- the four processes are named by their numbers: the job is one of version 1
abbrev pub generated_naming : Naming
generated_naming = record { version = One; names = numbered 4 }

-- the job of a word
abbrev pub job_by : List ℕ → JobData
job_by word =
    record { naming = generated_naming; lang = whole_of (generated_dfa word); scripts = generated_scripts word }

-- the job of the word that is drawn from the number
unfoldable pub generated_job : ℕ → JobData
generated_job number = job_by (drawn number letters_drawn)

-- its text
abbrev pub generated_text : ℕ → List ℕ
generated_text number = printed (generated_job number)
