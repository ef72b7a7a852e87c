-- Claims after a job: what their lines say, and the first wrong line.
use Rattle.std.specs.Prelude.{ℕ, ◌+◌, ◌^◌, ◌==◌, ◌++◌, not, nat_le, nat_lt, List, [], ◌∷◌, length, take, drop}
use Rattle.std.specs.Prelude.{codes, Option, Some, None, if◌then◌else◌, fold, unwrap_or}
use Rattle.std.specs.List.{list_all, flat_map, prefix_len}
use Rattle.std.specs.Option.{option_or, option_map}
use Rattle.std.specs.Str.{bytes_eq}
use Rattle.za_text.specs.Lines.{RawLine, is_allowed}
use Rattle.za_text.specs.Numbers.{numeral_value}
use Rattle.za_text.specs.declared.kind.Kind.{Kind}
use Rattle.za_text.specs.declared.kind.Kind.TheVariants.{Cut, BadByte, OutOfOrder, WordCount, NoEnd, Trailing}
use Rattle.za_text.specs.declared.kind.Kind.TheVariants.{BadNumber, NoSuchAnswer, ClaimFull, BadEvent, NoSuchLabel}
use Rattle.za_text.specs.declared.kind.TextFault.{TextFault}
use Rattle.za_alpha.specs.Alphabet.{DistributedAlphabet, place_of}
use Rattle.za_script.specs.declared.answer.Answer.{Answer}
use Rattle.za_script.specs.declared.answer.Answer.TheVariants.{Accept, Reject, Stuck}
use Rattle.za_lang.specs.declared.version.Version.{Version}
use Rattle.za_lang.specs.Documents.{words_in, next_fault}
use Rattle.za_lang.specs.Tests.{named_fault, end_line_fault}
use Rattle.za_claim.specs.declared.claim.Event.{Event}
use Rattle.za_claim.specs.declared.order.Head.{Head}
use Rattle.za_claim.specs.declared.order.Head.TheVariants.{Claim, Fire, End, Other}
use Rattle.za_claim.specs.declared.order.Place.{Place}
use Rattle.za_claim.specs.declared.order.Place.TheVariants.{AtClaim, AtEvents, AfterEnd}
use Rattle.za_claim.specs.Limits.{most_events}

-- The order of lines. The words of a line are those of the job's version, `words_in`.

-- what a first word says
abbrev pub claim_head : List ℕ → Head
claim_head word =
    if bytes_eq word (codes "claim") then Claim
    else (if bytes_eq word (codes "fire") then Fire
    else (if bytes_eq word (codes "end") then End else Other))

-- the place after a line with this first word
abbrev pub next_claim_place : Place → Head → Place
next_claim_place place Claim = AtEvents
next_claim_place place Fire = AtEvents
next_claim_place place End = AfterEnd
next_claim_place place Other = place

-- the fault of a line with this first word at a place, where it may not stand there
abbrev pub claim_order_fault : Place → Head → Option Kind
claim_order_fault AtClaim Claim = None
claim_order_fault AtClaim _ = Some OutOfOrder
claim_order_fault AtEvents Fire = None
claim_order_fault AtEvents End = None
claim_order_fault AtEvents _ = Some OutOfOrder
claim_order_fault AfterEnd _ = Some Trailing

-- What lines say: each notion by the words of the lines, be they right or wrong.

abbrev pub claim_place_by : Place → List (List ℕ) → Place
claim_place_by place [] = place
claim_place_by place (word ∷ words) = next_claim_place place (claim_head word)

-- the place that lines lead to
abbrev pub claim_place_after : Version → List RawLine → Place
claim_place_after version lines = fold (λ place line. claim_place_by place (words_in version line)) AtClaim lines

-- the answer that a word names
abbrev pub named_answer : List ℕ → Option Answer
named_answer word =
    if bytes_eq word (codes "accept") then Some Accept
    else (if bytes_eq word (codes "reject") then Some Reject
    else (if bytes_eq word (codes "stuck") then Some Stuck else None))

-- the answer that words begin with
abbrev pub first_answer : List (List ℕ) → Option Answer
first_answer [] = None
first_answer (word ∷ words) = named_answer word

-- the answer that a line says, and else that said before
abbrev pub answer_said : Answer → Head → List (List ℕ) → Answer
answer_said answer Claim words = unwrap_or (first_answer words) answer
answer_said answer _ words = answer

abbrev pub answer_told_by : Answer → List (List ℕ) → Answer
answer_told_by answer [] = answer
answer_told_by answer (word ∷ words) = answer_said answer (claim_head word) words

-- the answer that lines say; that of no lines is never asked for
abbrev pub answer_claimed : Version → List RawLine → Answer
answer_claimed version lines = fold (λ answer line. answer_told_by answer (words_in version line)) Stuck lines

-- where the first point of a word stands, and the word's length where there is none
abbrev pub point_in : List ℕ → ℕ
point_in word = prefix_len (λ b. not (b == 46)) word

-- the letter before the point
abbrev pub letter_in : DistributedAlphabet → List ℕ → Option ℕ
letter_in alphabet word = place_of alphabet.letters (take (point_in word) word)

-- the label after the point
abbrev pub label_in : List ℕ → Option ℕ
label_in word = numeral_value (drop (point_in word + 1) word)

-- the event of a letter and a label, where they are there
abbrev pub event_of : Option ℕ → Option ℕ → List Event
event_of (Some a) (Some k) = record { letter = record { 0 = a }; label = k } ∷ []
event_of _ _ = []

-- the event that a line says
abbrev pub events_said : DistributedAlphabet → Head → List (List ℕ) → List Event
events_said alphabet Fire (word ∷ words) = event_of (letter_in alphabet word) (label_in word)
events_said alphabet _ _ = []

abbrev pub events_by : DistributedAlphabet → List (List ℕ) → List Event
events_by alphabet [] = []
events_by alphabet (word ∷ words) = events_said alphabet (claim_head word) words

-- the events of all fire lines, in order
abbrev pub events_in : Version → DistributedAlphabet → List RawLine → List Event
events_in version alphabet lines = flat_map (λ line. events_by alphabet (words_in version line)) lines

-- all that lines say, as lines of a job's version
pub record ToldClaim : Type 0 where
  pub place : Place
  pub answer : Answer
  pub events : List Event

unfoldable pub told : Version → DistributedAlphabet → List RawLine → ToldClaim
told version alphabet lines = record {
  place = claim_place_after version lines;
  answer = answer_claimed version lines;
  events = events_in version alphabet lines;
}

-- The tests of a line, after lines that say this.

abbrev pub answer_fault : Option Answer → Option Kind
answer_fault None = Some NoSuchAnswer
answer_fault (Some answer) = None

abbrev pub claim_line_fault : List (List ℕ) → Option Kind
claim_line_fault (word ∷ []) = answer_fault (named_answer word)
claim_line_fault _ = Some WordCount

-- a label, which is at most the cube of the number of processes
abbrev pub label_fault : ℕ → Option ℕ → Option Kind
label_fault processes None = Some BadNumber
label_fault processes (Some k) = if nat_le k (processes ^ 3) then None else Some NoSuchLabel

abbrev pub event_fault : DistributedAlphabet → List ℕ → Option Kind
event_fault alphabet word =
    if nat_lt (point_in word) (length word)
    then option_or (named_fault (letter_in alphabet word)) (label_fault alphabet.processes (label_in word))
    else Some BadEvent

-- an event after so many others
abbrev pub fire_line_fault : DistributedAlphabet → ℕ → List (List ℕ) → Option Kind
fire_line_fault alphabet read (word ∷ []) =
    if nat_le most_events read then Some ClaimFull else event_fault alphabet word
fire_line_fault alphabet read _ = Some WordCount

-- the own tests of a line, by the words after its first
abbrev pub claim_own_fault : DistributedAlphabet → ToldClaim → Head → List (List ℕ) → Option Kind
claim_own_fault alphabet s Claim words = claim_line_fault words
claim_own_fault alphabet s Fire words = fire_line_fault alphabet (length s.events) words
claim_own_fault alphabet s End words = end_line_fault words
claim_own_fault alphabet s Other words = Some OutOfOrder

abbrev pub claim_words_fault : DistributedAlphabet → ToldClaim → List (List ℕ) → Option Kind
claim_words_fault alphabet s [] = None
claim_words_fault alphabet s (word ∷ words) =
    option_or (claim_order_fault s.place (claim_head word)) (claim_own_fault alphabet s (claim_head word) words)

-- the first test of a line that fails
unfoldable pub claim_fault_at : Version → DistributedAlphabet → ToldClaim → RawLine → Option Kind
claim_fault_at version alphabet s line =
    if not line.whole then Some Cut
    else (if not (list_all is_allowed line.text) then Some BadByte
    else claim_words_fault alphabet s (words_in version line))

-- at the end of the text, after so many lines
abbrev pub claim_end_fault : Place → ℕ → Option TextFault
claim_end_fault AfterEnd n = None
claim_end_fault _ n = Some (next_fault n NoEnd)

-- the first wrong line of those that come after `before`, in a text with so many lines before the claim
abbrev pub claim_faults_from :
    Version → DistributedAlphabet → ℕ → List RawLine → List RawLine → Option TextFault
claim_faults_from version alphabet first before [] =
    claim_end_fault (told version alphabet before).place (first + length before)
claim_faults_from version alphabet first before (line ∷ lines) =
    let fault = claim_fault_at version alphabet (told version alphabet before) line in
    let here = option_map (next_fault (first + length before)) fault in
    option_or here (claim_faults_from version alphabet first (before ++ line ∷ []) lines)
