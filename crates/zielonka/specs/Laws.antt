-- The causes of each status.
use Rattle.std.specs.Prelude.{◌≡◌, ◌≢◌, ℕ, ◌<◌, ◌≤◌, ◌==◌, ◌||◌, ◌⊎◌, ◌↔◌}
use Rattle.std.specs.Prelude.{Bool, true, false, IsTrue, IsFalse, List, [], ◌∷◌, length, Some, None}
use Rattle.std.specs.List.{list_any}
use Rattle.za_alpha.specs.Alphabet.{loc_of}
use Rattle.za_base.specs.Fault.{Rises}
use Rattle.za_base.specs.Ends.{Ends}
use Rattle.za_closure.specs.Breaks.{Break, IsBreak}
use Rattle.za_dfa.specs.Tables.{CompleteDfa, automaton_of}
use Rattle.za_text.specs.declared.kind.TextFault.{TextFault}
use Rattle.za_lang.specs.Documents.{fault_of, job_of}
use Rattle.za_lang.specs.Jobs.{JobData, IsJob}
use Rattle.za_freeze.specs.Frozen.{frozen_text, IsAutomatonOf}
use Rattle.za_freeze.specs.Thawing.{IsNotOwn}
use Rattle.za_gen.specs.Generated.{generated_text}
use Rattle.zielonka.specs.declared.request.Command.{Command}
use Rattle.zielonka.specs.declared.request.Command.TheVariants.{Solo, Run, Journal, Thaw}
use Rattle.zielonka.specs.declared.request.Request.{Request}
use Rattle.zielonka.specs.declared.request.Request.TheVariants.{Usage as AsksUsage}
use Rattle.zielonka.specs.declared.request.Request.TheVariants.{Generate as AsksJob}
use Rattle.zielonka.specs.Limits.{most_bytes}
use Rattle.zielonka.specs.Output.{IsOutput, fault_for, subject_of, given, usage_text, too_long_text}
use Rattle.zielonka.specs.Run.{NoReadFailed, NoWriteFailed}
use Rattle.zielonka.specs.Run.{ReadNothing, ReadAll, ReadNotTooMany, ReadTooMany, WroteNothing, WroteAll, WrotePart}
use Rattle.zielonka.specs.Run.{reads_bytes, IsOutputOf, IsDue, HasRun}
use Rattle.zielonka.specs.Shown.{AreClosedJob}

-- ---- runs

-- status 2 comes only of words in no form: nothing was read, and the usage text was written whole
abbrev pub UsageIsOfTheWords : Type 0
UsageIsOfTheWords =
    (asked : Request) (old new : Ends) → HasRun asked old new 2 →
    (asked ≡ AsksUsage) × ReadNothing old new × WroteAll old new usage_text

-- words in no form have no status but 2, 7 and 8
abbrev pub WordsDecideTheUsage : Type 0
WordsDecideTheUsage =
    (asked : Request) (old new : Ends) (status : ℕ) → HasRun asked old new status → asked ≡ AsksUsage →
    (status ≡ 2) ⊎ ((status ≡ 7) ⊎ (status ≡ 8))

-- the generated job was written whole, and nothing was read
abbrev pub WroteJob : Ends → Ends → ℕ → Type 0
WroteJob old new number = ReadNothing old new × WroteAll old new (generated_text number)

-- words that ask for a generated job have no status but 0, where it was written whole with nothing read, 7 and 8
abbrev pub WordsDecideTheJob : Type 0
WordsDecideTheJob =
    (asked : Request) (old new : Ends) (status number : ℕ) → HasRun asked old new status →
    asked ≡ AsksJob number → ((status ≡ 0) × WroteJob old new number) ⊎ ((status ≡ 7) ⊎ (status ≡ 8))

-- and where the sink's count of faults didn't rise, it is 0 or 8
abbrev pub JobCompletes : Type 0
JobCompletes =
    (asked : Request) (old new : Ends) (status number : ℕ) → HasRun asked old new status →
    asked ≡ AsksJob number → ¬ Rises old.write_faults new.write_faults →
    (status ≡ 8) ⊎ ((status ≡ 0) × WroteJob old new number)

-- status 6 comes only where the source's count of faults rose before too many bytes were taken; nothing was written
abbrev pub ReadFaultIsOfTheSource : Type 0
ReadFaultIsOfTheSource =
    (asked : Request) (old new : Ends) → HasRun asked old new 6 →
    IsTrue (reads_bytes asked) × ReadNotTooMany old new × Rises old.read_faults new.read_faults × WroteNothing old new

-- status 7 comes only where the sink's count of faults rose, and a proper prefix of a text that is due was written
abbrev pub WriteFaultIsOfTheSink : Type 0
WriteFaultIsOfTheSink =
    (asked : Request) (old new : Ends) → HasRun asked old new 7 →
    (status k : ℕ) × (text : List ℕ) × IsDue asked old new status text × WrotePart old new text k

-- with any status but 6 the source's count of faults is what it was, and with any but 7 the sink's is
abbrev pub CountsStay : Type 0
CountsStay =
    (asked : Request) (old new : Ends) (status : ℕ) → HasRun asked old new status →
    (status ≢ 6 → NoReadFailed old new) × (status ≢ 7 → NoWriteFailed old new)

-- status 9 comes only where one byte more than the limit was taken, and the refusal was written whole
abbrev pub TooLongIsOfTheBytes : Type 0
TooLongIsOfTheBytes =
    (asked : Request) (old new : Ends) → HasRun asked old new 9 →
    IsTrue (reads_bytes asked) × ReadTooMany old new × WroteAll old new too_long_text

-- where the source tells its bytes and too many were taken, the status is 9, 7 or 8
abbrev pub TooManyDecide : Type 0
TooManyDecide =
    (asked : Request) (old new : Ends) (status : ℕ) (bytes : List ℕ) → HasRun asked old new status →
    old.left ≡ Some bytes → ReadTooMany old new → (status ≡ 9) ⊎ ((status ≡ 7) ⊎ (status ≡ 8))

-- where it has too many, and neither count of faults rose, what is asked of them ends with want of memory or refuses
-- them
abbrev pub TooManyComplete : Type 0
TooManyComplete =
    (asked : Request) (old new : Ends) (status : ℕ) (bytes : List ℕ) → HasRun asked old new status →
    IsTrue (reads_bytes asked) → old.left ≡ Some bytes → most_bytes < length bytes →
    ¬ Rises old.read_faults new.read_faults → ¬ Rises old.write_faults new.write_faults →
    (status ≡ 8) ⊎ ((status ≡ 9) × WroteAll old new too_long_text)

-- status 8 comes with nothing written, and with nothing read where nothing is asked of bytes
abbrev pub NoMemoryWritesNothing : Type 0
NoMemoryWritesNothing =
    (asked : Request) (old new : Ends) → HasRun asked old new 8 →
    WroteNothing old new × (reads_bytes asked ≡ false → ReadNothing old new)

-- whether the status is that of bytes that were read
abbrev pub is_of_bytes : ℕ → Bool
is_of_bytes status = list_any (λ s. s == status) (0 ∷ 1 ∷ 3 ∷ 4 ∷ 5 ∷ [])

-- all bytes were read, and the text that is due for them was written whole
abbrev pub HasAnsweredAll : Request → Ends → Ends → ℕ → Type 0
HasAnsweredAll asked old new status =
    (bytes text : List ℕ) × ReadAll old new bytes × IsOutputOf asked bytes status text × WroteAll old new text

-- such a status comes only so, or it is 0, the words ask for a generated job, and it was written whole
abbrev pub AnswerIsOfAllBytes : Type 0
AnswerIsOfAllBytes =
    (asked : Request) (old new : Ends) (status : ℕ) → HasRun asked old new status → IsTrue (is_of_bytes status) →
    HasAnsweredAll asked old new status
    ⊎ ((number : ℕ) × (status ≡ 0) × (asked ≡ AsksJob number) × WroteJob old new number)

-- there is no other status
abbrev pub StatusesAreKnown : Type 0
StatusesAreKnown =
    (asked : Request) (old new : Ends) (status : ℕ) → HasRun asked old new status →
    IsTrue (is_of_bytes status || list_any (λ s. s == status) (2 ∷ 6 ∷ 7 ∷ 8 ∷ 9 ∷ []))

-- where the source tells its bytes and has not too many, and neither count of faults rose, what is asked of them ends
-- with want of memory or says what is due for all bytes
abbrev pub RunCompletes : Type 0
RunCompletes =
    (asked : Request) (old new : Ends) (status : ℕ) (bytes : List ℕ) → HasRun asked old new status →
    IsTrue (reads_bytes asked) → old.left ≡ Some bytes → length bytes ≤ most_bytes →
    ¬ Rises old.read_faults new.read_faults → ¬ Rises old.write_faults new.write_faults →
    (status ≡ 8) ⊎ ((text : List ℕ) × IsOutputOf asked bytes status text × WroteAll old new text)

-- ---- what is due

-- whether the text of a command tells in which order the letters were fired
abbrev pub tells_the_order : Command → Bool
tells_the_order (Journal cache) = true
tells_the_order _ = false

-- for a command and bytes one status is due, and one text, unless it tells the order
abbrev pub OutputIsOne : Type 0
OutputIsOne =
    (command : Command) (bytes : List ℕ) (s t : ℕ) (x y : List ℕ) → IsOutput command bytes s x →
    IsOutput command bytes t y → (s ≡ t) × (IsFalse (tells_the_order command) → x ≡ y)

-- and some status and some text are
abbrev pub SomethingIsDue : Type 0
SomethingIsDue =
    (command : Command) (bytes : List ℕ) → (status : ℕ) × (text : List ℕ) × IsOutput command bytes status text

-- on threads the status and the text that are due are those that are due on one thread
abbrev pub ThreadsAnswerAsOne : Type 0
ThreadsAnswerAsOne =
    (cache : ℕ) (bytes : List ℕ) (status : ℕ) (text : List ℕ) →
    (IsOutput (Run cache) bytes status text ↔ IsOutput (Solo cache) bytes status text)

-- and a journal ends as its answer does: a status is due for it exactly where it is due on one thread
abbrev pub JournalEndsAsOne : Type 0
JournalEndsAsOne =
    (cache : ℕ) (bytes : List ℕ) (status : ℕ) →
    (((text : List ℕ) × IsOutput (Journal cache) bytes status text)
    ↔ ((text : List ℕ) × IsOutput (Solo cache) bytes status text))

-- for `thaw` and the frozen text of a document whose language is trace-closed, after any number of events, the status
-- and the text that are due are those that are due for `solo` and the document, with no cache
abbrev pub ThawGoesOn : Type 0
ThawGoesOn =
    (bytes : List ℕ) (d : CompleteDfa) (k status : ℕ) (text : List ℕ) → fault_of bytes ≡ None →
    IsAutomatonOf (job_of bytes) d →
    (IsOutput Thaw (frozen_text (job_of bytes) d k) status text ↔ IsOutput (Solo 0) bytes status text)

-- the bytes are the frozen text of some job whose language is trace-closed, after some number of events
abbrev pub AreFrozen : List ℕ → Type 0
AreFrozen bytes =
    (job : JobData) × (d : CompleteDfa) × (k : ℕ) × IsJob job × IsAutomatonOf job d × (bytes ≡ frozen_text job d k)

-- these and no other bytes are what `thaw` reads, with a trace-closed language
abbrev pub FrozenTextsAreRead : Type 0
FrozenTextsAreRead = (bytes : List ℕ) → (AreClosedJob Thaw bytes ↔ AreFrozen bytes)

-- why bytes are refused: some line of theirs is wrong, or to `thaw` it isn't that of the frozen text
abbrev pub IsFaultOf : Command → List ℕ → TextFault → Type 0
IsFaultOf command bytes fault =
    (fault_for command bytes ≡ Some fault) ⊎ ((command ≡ Thaw) × IsNotOwn bytes fault)

-- the status that is due is 4 exactly where the bytes aren't what the command reads: there is some such fault
abbrev pub RefusedExactly : Type 0
RefusedExactly =
    (command : Command) (bytes : List ℕ) (status : ℕ) (text : List ℕ) → IsOutput command bytes status text →
    ((status ≡ 4) ↔ ((fault : TextFault) × IsFaultOf command bytes fault))

-- the bytes are what the command reads, and the language of their job has a break
abbrev pub HasBrokenLanguage : Command → List ℕ → Type 0
HasBrokenLanguage command bytes =
    let job = (subject_of command bytes).job in
    (fault_for command bytes ≡ None) × IsJob job
    × ((k : Break) × IsBreak (loc_of job.lang.alphabet) (automaton_of (given job)) k)

-- it is 5 exactly where that language has a break: two equivalent words of which one is accepted
abbrev pub OpenExactly : Type 0
OpenExactly =
    (command : Command) (bytes : List ℕ) (status : ℕ) (text : List ℕ) → IsOutput command bytes status text →
    ((status ≡ 5) ↔ HasBrokenLanguage command bytes)
