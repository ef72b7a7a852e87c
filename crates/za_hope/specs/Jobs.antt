-- The hope of a job.
use Rattle.std.specs.Prelude.{Option}
use Rattle.za_alpha.specs.Alphabet.{loc_of}
use Rattle.za_dfa.specs.Partials.{completion}
use Rattle.za_dfa.specs.Tables.{automaton_of}
use Rattle.za_min.specs.declared.live.Hope.{Hope}
use Rattle.za_script.specs.declared.answer.Answer.{Answer}
use Rattle.za_script.specs.ScriptLists.{script_of}
use Rattle.za_lang.specs.Jobs.{JobData}
use Rattle.za_hope.specs.Hopes.{IsHopeFor}

-- the hope that goes with an answer to the job's scripts, by the automaton of its language, completed
abbrev pub HasHope : JobData → Answer → Option Hope → Type 0
HasHope job answer hope =
    IsHopeFor (loc_of job.lang.alphabet) job.lang.alphabet.processes (automaton_of (completion job.lang))
    (script_of job.scripts) answer hope
