-- Frozen texts are thawed, and what is left of a job answers as the job does.
use Rattle.std.specs.Prelude.{◌≡◌, ◌↔◌, ℕ, ◌+◌, ◌++◌, Option, None, List, length}
use Rattle.za_alpha.specs.Words.{projection}
use Rattle.za_alpha.specs.Alphabet.{loc_of}
use Rattle.za_dfa.specs.Tables.{CompleteDfa, automaton_of}
use Rattle.za_dfa.specs.Partials.{completion}
use Rattle.za_min.specs.declared.live.Hope.{Hope}
use Rattle.za_script.specs.declared.answer.Answer.{Answer}
use Rattle.za_script.specs.Answer.{IsAnswer}
use Rattle.za_script.specs.ScriptLists.{script_of}
use Rattle.za_script.specs.Woven.{weave_of}
use Rattle.za_script.specs.Rests.{rest_of}
use Rattle.za_hope.specs.Hopes.{IsHopeFor}
use Rattle.za_hope.specs.Jobs.{HasHope}
use Rattle.za_lang.specs.Jobs.{JobData, IsJob}
use Rattle.za_freeze.specs.declared.thawing.ThawFault.{ThawFault}
use Rattle.za_freeze.specs.declared.thawing.ThawFault.TheVariants as thaw_fault
use Rattle.za_freeze.specs.Frozen.{woven_of, cut_word, frozen_text, after_word, IsAutomatonOf, IsThawed}
use Rattle.za_freeze.specs.Thawing.{reading_fault, frozen_job, cut_of, not_own_fault, IsRefusedFor}

-- a frozen text says its job and after how many events it was frozen, and no line of it is wrong
abbrev pub FrozenTextsAreReadBack : Type 0
FrozenTextsAreReadBack =
    (job : JobData) (d : CompleteDfa) (k : ℕ) → IsJob job → d.alphabet ≡ job.lang.alphabet →
    let text = frozen_text job d k in
    (frozen_job text ≡ job) × (cut_of text ≡ length (cut_word job k)) × (reading_fault text ≡ None)
    × (not_own_fault d text ≡ None)

-- so nothing but the want of memory refuses the frozen text of a job with a trace-closed language
abbrev pub FrozenTextsAreThawed : Type 0
FrozenTextsAreThawed =
    (job : JobData) (d : CompleteDfa) (k : ℕ) (fault : ThawFault) → IsJob job → IsAutomatonOf job d →
    IsRefusedFor (frozen_text job d k) fault → fault ≡ thaw_fault.OutOfMemory

-- and a text is thawed to one job, one automaton and one rest
abbrev pub ThawedOnce : Type 0
ThawedOnce =
    (bytes : List ℕ) (i j : JobData) (c d : CompleteDfa) (r s : List (List ℕ)) → IsJob i → IsJob j →
    IsThawed bytes i c r → IsThawed bytes j d s → (i ≡ j) × (c ≡ d) × (r ≡ s)

-- ---- the rest of a job

-- the scripts that are left after the first k letters of the weave
abbrev pub scripts_left : JobData → ℕ → List (List ℕ)
scripts_left job k = rest_of job.lang.alphabet job.scripts (cut_word job k)

-- the weave is these letters and then the weave of what is left
abbrev pub RestsWeaveOn : Type 0
RestsWeaveOn =
    (job : JobData) (k : ℕ) → IsJob job →
    woven_of job ≡ cut_word job k ++ weave_of job.lang.alphabet (scripts_left job k)

-- so the counts of these letters and of what is left add up to those of the job
abbrev pub RestsCountOn : Type 0
RestsCountOn =
    (job : JobData) (k p : ℕ) → IsJob job →
    let count : List ℕ → ℕ = λ w. length (projection (loc_of job.lang.alphabet) p w) in
    count (cut_word job k) + count (weave_of job.lang.alphabet (scripts_left job k)) ≡ count (woven_of job)

-- what is left of the language answers to what is left of the scripts as the job's does to its scripts
abbrev pub RestsAnswerAlike : Type 0
RestsAnswerAlike =
    (job : JobData) (d : CompleteDfa) (k : ℕ) (answer : Answer) → IsJob job → IsAutomatonOf job d →
    (IsAnswer (loc_of job.lang.alphabet) (automaton_of (after_word d (cut_word job k)))
    (script_of (scripts_left job k)) answer
    ↔ IsAnswer (loc_of job.lang.alphabet) (automaton_of (completion job.lang)) (script_of job.scripts) answer)

-- and has the hope of the job
abbrev pub RestsHopeAlike : Type 0
RestsHopeAlike =
    (job : JobData) (d : CompleteDfa) (k : ℕ) (answer : Answer) (hope : Option Hope) →
    IsJob job → IsAutomatonOf job d →
    (IsHopeFor (loc_of job.lang.alphabet) job.lang.alphabet.processes
    (automaton_of (after_word d (cut_word job k))) (script_of (scripts_left job k)) answer hope
    ↔ HasHope job answer hope)
