-- The finished run that is handed back: the one from which the text was made.
use Rattle.std.specs.Prelude.{◌≡◌, ℕ, ◌≤◌, ◌==◌, List, [], ◌∷◌, Bool, true, false, IsTrue, length}
use Rattle.std.specs.Prelude.{Option, Some, None}
use Rattle.std.specs.List.{list_any}
use Rattle.za_alpha.specs.Words.{AreEquivalent}
use Rattle.za_alpha.specs.Alphabet.{loc_of}
use Rattle.za_base.specs.Ends.{Ends}
use Rattle.za_dfa.specs.Automata.{IsTraceClosed}
use Rattle.za_dfa.specs.Tables.{automaton_of}
use Rattle.za_lang.specs.Jobs.{JobData, IsJob}
use Rattle.za_min.specs.Minimal.{IsMinimalOf}
use Rattle.za_min.specs.declared.live.Hope.{Hope}
use Rattle.za_hope.specs.Hopes.{IsHopeFor}
use Rattle.za_report.specs.LocalStates.{locals_text}
use Rattle.za_report.specs.Texts.{answer_text}
use Rattle.za_script.specs.Answer.{IsAnswer}
use Rattle.za_script.specs.ScriptLists.{script_of}
use Rattle.za_script.specs.Woven.{weave_of}
use Rattle.za_table.specs.Ends.{EndedState, IsEnded, HasAnswer, answer_in}
use Rattle.za_freeze.specs.Frozen.{IsThawed}
use Rattle.zielonka.specs.Limits.{most_bytes}
use Rattle.zielonka.specs.Journals.{journal_text}
use Rattle.zielonka.specs.Output.{IsOutput, IsOwn, fault_for, subject_of, given, woven_of}
use Rattle.zielonka.specs.Run.{HasSaid, ReadAll}
use Rattle.zielonka.specs.declared.request.Command.{Command}
use Rattle.zielonka.specs.declared.request.Command.TheVariants.{Solo, Run, Check, Locals, Journal, Audit, Thaw}
use Rattle.zielonka.specs.declared.request.Request.{Request}
use Rattle.zielonka.specs.declared.request.Request.TheVariants.{Answer as Asks}
use Rattle.zielonka.specs.declared.status.Shown.{Shown}
use Rattle.zielonka.specs.declared.status.Shown.TheVariants.{Nothing, Solo as ShowsSolo, Hall as ShowsHall}

-- whether the command runs the scripts of a job
abbrev pub runs_scripts : Command → Bool
runs_scripts (Solo cache) = true
runs_scripts (Run cache) = true
runs_scripts (Check cache) = false
runs_scripts (Locals cache) = true
runs_scripts (Journal cache) = true
runs_scripts Audit = false
runs_scripts Thaw = true

-- whether it runs them on threads
abbrev pub runs_on_threads : Command → Bool
runs_on_threads (Solo cache) = false
runs_on_threads (Run cache) = true
runs_on_threads (Check cache) = false
runs_on_threads (Locals cache) = false
runs_on_threads (Journal cache) = true
runs_on_threads Audit = false
runs_on_threads Thaw = true

-- the language of the job is trace-closed
abbrev pub IsClosed : JobData → Type 0
IsClosed job = IsTraceClosed (loc_of job.lang.alphabet) (automaton_of (given job))

-- the bytes are what the command reads, for `thaw` a frozen text, and the language of their job is trace-closed
pub record AreClosedJob (command : Command) (bytes : List ℕ) : Type 0 where
  pub read : fault_for command bytes ≡ None
  pub job : IsJob (subject_of command bytes).job
  pub closed : IsClosed (subject_of command bytes).job
  pub own : IsOwn command bytes

-- the run is one of the job: on the minimal automaton of its language and on its scripts; it is over, and its answer is
-- that of the automaton as given to the scripts, over all words that weave them
pub record IsRunOf (job : JobData) (run : EndedState) : Type 0 where
  pub minimal : IsMinimalOf run.given.dfa (given job)
  pub scripts : run.given.scripts ≡ job.scripts
  pub over : IsEnded run
  pub answer : IsAnswer (loc_of job.lang.alphabet) (automaton_of (given job)) (script_of job.scripts) (answer_in run)

-- the hope that goes with the answer of a finished run: that of its automaton and its scripts
abbrev pub IsHopeIn : EndedState → Option Hope → Type 0
IsHopeIn run hope =
    let on = run.given in
    IsHopeFor (loc_of on.dfa.alphabet) on.dfa.alphabet.processes (automaton_of on.dfa) (script_of on.scripts)
    (answer_in run) hope

-- the text of the answer of a finished run and of a hope, with the names of its processes. Its word is the weave,
-- which says in which order its letters are told
abbrev pub answer_text_of : List (List ℕ) → EndedState → Option Hope → ℕ → List ℕ
answer_text_of names run hope cache =
    let on = run.given in
    answer_text names on.dfa.alphabet on.scripts (weave_of on.dfa.alphabet on.scripts) (answer_in run) hope cache

-- the text tells the answer of the run, and the hope that goes with it
abbrev pub TellsAnswer : List (List ℕ) → EndedState → ℕ → List ℕ → Type 0
TellsAnswer names run cache text =
    (hope : Option Hope) × IsHopeIn run hope × (text ≡ answer_text_of names run hope cache)

-- its journal: its word with the labels, and its answer
abbrev pub journal_text_of : EndedState → List ℕ
journal_text_of run = journal_text run.given.dfa.alphabet run.state.journal (answer_in run)

-- the text is what the command makes of the run: of its answer and hope, with the names of the processes, of its local
-- states, which are those after its word, or its journal. `thaw` runs what is left of a job, and none of the whole
abbrev pub IsMadeOf : Command → List (List ℕ) → EndedState → List ℕ → Type 0
IsMadeOf (Solo cache) names run text = TellsAnswer names run cache text
IsMadeOf (Run cache) names run text = TellsAnswer names run cache text
IsMadeOf (Check cache) names run text = ⊥
IsMadeOf (Locals cache) names run text = text ≡ locals_text run.given.dfa run.state.journal
IsMadeOf (Journal cache) names run text = text ≡ journal_text_of run
IsMadeOf Audit names run text = ⊥
IsMadeOf Thaw names run text = ⊥

-- in which order the letters of a job were fired: on one thread in that of the woven word, on threads in some order
-- that is equivalent to it
abbrev pub IsJournalOf : Command → JobData → List ℕ → Type 0
IsJournalOf (Solo cache) job journal = journal ≡ woven_of job
IsJournalOf (Run cache) job journal = AreEquivalent (loc_of job.lang.alphabet) journal (woven_of job)
IsJournalOf (Check cache) job journal = ⊥
IsJournalOf (Locals cache) job journal = journal ≡ woven_of job
IsJournalOf (Journal cache) job journal = AreEquivalent (loc_of job.lang.alphabet) journal (woven_of job)
IsJournalOf Audit job journal = ⊥
IsJournalOf Thaw job journal = ⊥

-- the text of the command is made of the run, which is one of the job
pub record IsMadeBy (command : Command) (job : JobData) (text : List ℕ) (run : EndedState) : Type 0 where
  pub of : IsRunOf job run
  pub journal : IsJournalOf command job run.state.journal
  pub made : IsMadeOf command job.naming.names run text

-- the run is one of what is left of the job of a frozen text: on the minimal automaton of its language, started at the
-- state after the events that had happened, and on what is left of its scripts; it is over, and its answer is that of
-- this automaton to these scripts
pub record IsRestOf (bytes : List ℕ) (job : JobData) (run : EndedState) : Type 0 where
  pub thawed : IsThawed bytes job run.given.dfa run.given.scripts
  pub over : IsEnded run
  pub answer : HasAnswer run

-- the text tells, of the whole job, the answer of the run and the hope that goes with it
abbrev pub TellsWhole : JobData → EndedState → List ℕ → Type 0
TellsWhole job run text =
    (hope : Option Hope) × IsHopeIn run hope
    × (text ≡ answer_text job.naming.names job.lang.alphabet job.scripts (woven_of job) (answer_in run) hope 0)

-- the text of `thaw` is made of the run, which is one of what is left of the job; the letters that were left were fired
-- in some order that is equivalent to their weave
pub record IsMadeByRest (bytes : List ℕ) (job : JobData) (text : List ℕ) (run : EndedState) : Type 0 where
  pub of : IsRestOf bytes job run
  pub journal : AreEquivalent (loc_of job.lang.alphabet) run.state.journal
      (weave_of job.lang.alphabet run.given.scripts)
  pub made : TellsWhole job run text

-- as what a finished run is shown: as one on one thread, or as that of a hall
abbrev pub shown_as : Command → EndedState → Shown
shown_as (Solo cache) run = ShowsSolo run
shown_as (Run cache) run = ShowsHall run
shown_as (Check cache) run = Nothing
shown_as (Locals cache) run = ShowsSolo run
shown_as (Journal cache) run = ShowsHall run
shown_as Audit run = Nothing
shown_as Thaw run = ShowsHall run

-- whether a status may come of a finished run
abbrev pub is_of_a_run : ℕ → Bool
is_of_a_run status = list_any (λ s. s == status) (0 ∷ 1 ∷ 3 ∷ 7 ∷ [])

-- what is shown by what is asked, by the status that the run of the program ended with
pub data IsShown (asked : Request) (old new : Ends) (status : ℕ) : Shown → Type 0 where
  -- all bytes were read, they are a job whose language is trace-closed, and the text that is due was made of the
  -- finished run; it was written whole, with the status that is due, or in part, with 7
  Finished : (command : Command) (bytes text : List ℕ) (due : ℕ) (run : EndedState) → asked ≡ Asks command →
      ReadAll old new bytes → AreClosedJob command bytes →
      IsMadeBy command (subject_of command bytes).job text run → IsOutput command bytes due text →
      HasSaid due text old.written new.written old.write_faults new.write_faults status →
      IsShown asked old new status (shown_as command run)
  -- the same of `thaw`, all bytes are a frozen text, and the run is one of what is left of its job
  FinishedRest : (bytes text : List ℕ) (due : ℕ) (run : EndedState) → asked ≡ Asks Thaw → ReadAll old new bytes →
      AreClosedJob Thaw bytes → IsMadeByRest bytes (subject_of Thaw bytes).job text run →
      IsOutput Thaw bytes due text →
      HasSaid due text old.written new.written old.write_faults new.write_faults status →
      IsShown asked old new status (shown_as Thaw run)
  -- where a command that runs scripts is asked for, and the source tells its bytes, which are a job whose language is
  -- trace-closed, not too long, the status is another one
  Unshown : ((command : Command) (bytes : List ℕ) → asked ≡ Asks command → IsTrue (runs_scripts command) →
      old.left ≡ Some bytes → length bytes ≤ most_bytes → AreClosedJob command bytes →
      IsTrue (is_of_a_run status) → ⊥) → IsShown asked old new status Nothing
