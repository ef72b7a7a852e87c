-- The claim that a journal is: the letters of a word in the order in which they were fired, with their labels.
use Rattle.std.specs.Prelude.{ℕ, List, length, map, slice_index}
use Rattle.std.specs.List.{range_with_len}
use Rattle.za_alpha.specs.Alphabet.{DistributedAlphabet, loc_of}
use Rattle.za_order.specs.Labels.{label}
use Rattle.za_script.specs.declared.answer.Answer.{Answer}
use Rattle.za_claim.specs.declared.claim.Event.{Event}
use Rattle.za_claim.specs.Claims.{ClaimData}
use Rattle.za_claim.specs.Printed.{printed_claim}

-- the event at a place of the word: its letter, and its label by definition
abbrev pub fired_event : DistributedAlphabet → List ℕ → ℕ → Event
fired_event alphabet w i =
    record { letter = record { 0 = slice_index w i }; label = label (loc_of alphabet) alphabet.processes w i }

abbrev pub fired_events : DistributedAlphabet → List ℕ → List Event
fired_events alphabet w = map (fired_event alphabet w) (range_with_len 0 (length w))

-- the claim that these events happened, with this answer
abbrev pub journal_of : DistributedAlphabet → List ℕ → Answer → ClaimData
journal_of alphabet w answer = record { answer = answer; events = fired_events alphabet w }

abbrev pub journal_text : DistributedAlphabet → List ℕ → Answer → List ℕ
journal_text alphabet w answer = printed_claim alphabet (journal_of alphabet w answer)
