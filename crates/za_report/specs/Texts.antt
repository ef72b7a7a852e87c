-- The texts of answers and refusals.
use Rattle.std.specs.Prelude.{ℕ, ◌+◌, ◌*◌, nat_lt, List, [], ◌∷◌, ◌++◌, length, map, codes, decimal}
use Rattle.std.specs.Prelude.{slice_index, Option, Some, None, if◌then◌else◌}
use Rattle.std.specs.List.{range_with_len}
use Rattle.za_alpha.specs.Words.{projection}
use Rattle.za_alpha.specs.Alphabet.{DistributedAlphabet, loc_of, name_at}
use Rattle.za_min.specs.declared.live.Hope.{Hope}
use Rattle.za_min.specs.declared.live.Hope.TheVariants.{Alive, Dead}
use Rattle.za_order.specs.Labels.{label_bound}
use Rattle.za_script.specs.declared.answer.Answer.{Answer}
use Rattle.za_script.specs.declared.answer.Answer.TheVariants.{Accept, Reject, Stuck}
use Rattle.za_script.specs.ScriptLists.{script_of}
use Rattle.za_text.specs.declared.kind.TextFault.{TextFault}
use Rattle.za_text.specs.Kinds.{kind_text}
use Rattle.za_text.specs.ProcessNames.{name_of}
use Rattle.za_text.specs.Printed.{text_of, number_line}
use Rattle.za_claim.specs.Printed.{answer_word}

-- how many records there are at most: one for each process and for one firing, and as many for each cache row
abbrev pub record_bound : DistributedAlphabet → ℕ → ℕ
record_bound alphabet cache = alphabet.processes + 1 + (alphabet.processes + 1) * cache

-- the line of both bounds
abbrev pub bound_line : DistributedAlphabet → ℕ → List (List ℕ)
bound_line alphabet cache =
    codes "bound" ∷ codes "labels" ∷ decimal (label_bound (length alphabet.letters) alphabet.processes)
    ∷ codes "records" ∷ decimal (record_bound alphabet cache) ∷ []

-- ---- answers

-- whether a run whose scripts are stuck can still be saved
abbrev pub hope_word : Hope → List ℕ
hope_word Alive = codes "alive"
hope_word Dead = codes "dead"

-- a word, and the names of letters
abbrev pub names_line : List ℕ → DistributedAlphabet → List ℕ → List (List ℕ)
names_line word alphabet letters = word ∷ map (name_at alphabet.letters) letters

-- what process p waits for after so many of its events: the next letter of its script, if there is one
abbrev pub wait_words : DistributedAlphabet → List ℕ → ℕ → List (List ℕ)
wait_words alphabet script fired =
    if nat_lt fired (length script) then codes "waits" ∷ name_at alphabet.letters (slice_index script fired) ∷ []
    else codes "ended" ∷ []

-- the process of a name after so many of its events
abbrev pub process_words : DistributedAlphabet → List ℕ → List ℕ → ℕ → List (List ℕ)
process_words alphabet script name fired =
    codes "process" ∷ name ∷ codes "fired" ∷ decimal fired ∷ wait_words alphabet script fired

-- process p after the word
abbrev pub process_line : List (List ℕ) → DistributedAlphabet → List (List ℕ) → List ℕ → ℕ → List (List ℕ)
process_line names alphabet scripts word p =
    process_words alphabet (script_of scripts p) (name_of names p) (length (projection (loc_of alphabet) p word))

-- where the scripts are stuck: each process, the word that fired, and the hope
abbrev pub stuck_lines : List (List ℕ) → DistributedAlphabet → List (List ℕ) → List ℕ → Hope → List (List (List ℕ))
stuck_lines names alphabet scripts word hope =
    map (process_line names alphabet scripts word) (range_with_len 0 alphabet.processes)
    ++ names_line (codes "trace") alphabet word ∷ (hope_word hope ∷ []) ∷ []

-- these lines where there is a hope: only stuck scripts have one
abbrev pub more_lines :
    List (List ℕ) → DistributedAlphabet → List (List ℕ) → List ℕ → Option Hope → List (List (List ℕ))
more_lines names alphabet scripts word None = []
more_lines names alphabet scripts word (Some hope) = stuck_lines names alphabet scripts word hope

-- the text of an answer and of the hope that goes with it, with the names of the processes, the word that fired and
-- so many cache rows
abbrev pub answer_text :
    List (List ℕ) → DistributedAlphabet → List (List ℕ) → List ℕ → Answer → Option Hope → ℕ → List ℕ
answer_text names alphabet scripts word answer hope cache =
    text_of ((answer_word answer ∷ []) ∷ number_line (codes "fired") (length word) ∷ bound_line alphabet cache
    ∷ more_lines names alphabet scripts word hope)

-- ---- closed or not

-- the text of a language that is closed, whose minimal automaton has so many states
abbrev pub check_text : DistributedAlphabet → ℕ → ℕ → List ℕ
check_text alphabet states cache =
    text_of ((codes "closed" ∷ []) ∷ number_line (codes "states") states ∷ bound_line alphabet cache ∷ [])

-- the text of a language that is not closed, with two equivalent words of which one is accepted
abbrev pub open_text : DistributedAlphabet → List ℕ → List ℕ → List ℕ
open_text alphabet left right =
    text_of ((codes "not" ∷ codes "closed" ∷ []) ∷ names_line (codes "left") alphabet left
    ∷ names_line (codes "right") alphabet right ∷ [])

-- ---- refusals

-- the text of a document that is refused
abbrev pub refused_text : TextFault → List ℕ
refused_text fault =
    text_of ((codes "refused" ∷ codes "line" ∷ (decimal fault.line ++ codes ":") ∷ kind_text fault.kind ∷ []) ∷ [])
