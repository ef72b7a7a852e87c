-- What holds of the generated job of each number.
use Rattle.std.specs.Prelude.{◌≡◌, ◌≤◌, ◌*◌, ℕ, length}
use Rattle.za_alpha.specs.Alphabet.{loc_of}
use Rattle.za_dfa.specs.Automata.{IsTraceClosed}
use Rattle.za_dfa.specs.Tables.{automaton_of}
use Rattle.za_dfa.specs.Partials.{completion}
use Rattle.za_script.specs.declared.answer.Answer.TheVariants.{Accept}
use Rattle.za_script.specs.Answer.{IsAnswer}
use Rattle.za_script.specs.ScriptLists.{script_of, total_of}
use Rattle.za_script.specs.Woven.{weave_of}
use Rattle.za_lang.specs.Jobs.{IsJob}
use Rattle.za_gen.specs.Limits.{letters_drawn}
use Rattle.za_gen.specs.Generated.{generated_job}

-- it is a job: it keeps the limits of documents, and its scripts fit its alphabet
abbrev pub AreJobs : Type 0
AreJobs = (number : ℕ) → IsJob (generated_job number)

-- its language is trace-closed
abbrev pub AreClosed : Type 0
AreClosed =
    (number : ℕ) → let job = generated_job number in
    IsTraceClosed (loc_of job.lang.alphabet) (automaton_of (completion job.lang))

-- its answer is accept
abbrev pub AreAccepted : Type 0
AreAccepted =
    (number : ℕ) → let job = generated_job number in
    IsAnswer (loc_of job.lang.alphabet) (automaton_of (completion job.lang)) (script_of job.scripts) Accept

-- its weave has all the letters that were drawn
abbrev pub FireAll : Type 0
FireAll =
    (number : ℕ) → let job = generated_job number in
    length (weave_of job.lang.alphabet job.scripts) ≡ letters_drawn

-- no letter is in more than two scripts
abbrev pub AreFewLetters : Type 0
AreFewLetters = (number : ℕ) → total_of (generated_job number).scripts ≤ 2 * letters_drawn
