-- What a run on threads answers to a document, in the words of the subject.
use Rattle.std.specs.Prelude.{◌≡◌, ◌≢◌, ℕ, ◌≤◌, List, length, Option, Some, None}
use Rattle.za_alpha.specs.Alphabet.{loc_of}
use Rattle.za_base.specs.Fault.{Rises}
use Rattle.za_base.specs.Ends.{Ends}
use Rattle.za_closure.specs.Breaks.{Break, IsLeastBreak, left_word, right_word}
use Rattle.za_dfa.specs.Tables.{automaton_of}
use Rattle.za_lang.specs.Documents.{fault_of, job_of}
use Rattle.za_min.specs.declared.live.Hope.{Hope}
use Rattle.za_hope.specs.Jobs.{HasHope}
use Rattle.za_report.specs.Texts.{answer_text, open_text}
use Rattle.za_script.specs.declared.answer.Answer.{Answer}
use Rattle.za_script.specs.Answer.{IsAnswer}
use Rattle.za_script.specs.ScriptLists.{script_of}
use Rattle.zielonka.specs.declared.request.Command.TheVariants.{Run}
use Rattle.zielonka.specs.declared.request.Request.TheVariants.{Answer as Asks}
use Rattle.zielonka.specs.Limits.{most_bytes}
use Rattle.zielonka.specs.Output.{given, status_of, woven_of}
use Rattle.zielonka.specs.Run.{WroteAll, HasRun}
use Rattle.zielonka.specs.Shown.{IsClosed}

-- `run` was asked for, with so many rows of a cache, and it ended so. The bytes that the source had are a document,
-- neither count of faults rose, and memory was not refused
pub record HasRunWell (cache : ℕ) (bytes : List ℕ) (old new : Ends) (status : ℕ) : Type 0 where
  pub ran : HasRun (Asks (Run cache)) old new status
  pub had : old.left ≡ Some bytes
  pub short : length bytes ≤ most_bytes
  pub document : fault_of bytes ≡ None
  pub reads : ¬ Rises old.read_faults new.read_faults
  pub writes : ¬ Rises old.write_faults new.write_faults
  pub memory : status ≢ 8

-- where the language is trace-closed, it ends with the answer of the automaton as given to the scripts, over all words
-- that weave them, and writes its text, with the hope where it is stuck
abbrev pub ClosedIsAnswered : Type 0
ClosedIsAnswered =
    (cache : ℕ) (bytes : List ℕ) (old new : Ends) (status : ℕ) → HasRunWell cache bytes old new status →
    IsClosed (job_of bytes) →
    let job = job_of bytes in
    (answer : Answer) × (hope : Option Hope)
    × IsAnswer (loc_of job.lang.alphabet) (automaton_of (given job)) (script_of job.scripts) answer
    × HasHope job answer hope
    × (status ≡ status_of answer)
    × WroteAll old new (answer_text job.naming.names job.lang.alphabet job.scripts (woven_of job) answer hope cache)

-- any other language is refused, with the two words of its least break
abbrev pub OtherIsRefused : Type 0
OtherIsRefused =
    (cache : ℕ) (bytes : List ℕ) (old new : Ends) (status : ℕ) → HasRunWell cache bytes old new status →
    ¬ IsClosed (job_of bytes) →
    let job = job_of bytes in
    (k : Break)
    × IsLeastBreak (loc_of job.lang.alphabet) (automaton_of (given job)) k
    × (status ≡ 5)
    × WroteAll old new (open_text job.lang.alphabet (left_word k) (right_word k))
