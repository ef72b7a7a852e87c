-- What holds of generated jobs.
use Rattle.std.proofs.Common.{ℕ, ◌≤◌, List, length, sym, subst, ◌∙◌, arith}
use Rattle.za_alpha.specs.Words.{IsWord}
use Rattle.za_alpha.specs.Alphabet.{loc_of}
use Rattle.za_dfa.specs.Automata.{walk, IsTraceClosed}
use Rattle.za_dfa.specs.Tables.{CompleteDfa, automaton_of}
use Rattle.za_dfa.proofs.Completing.{whole_completes, whole_partial}
use Rattle.za_script.specs.declared.answer.Answer.TheVariants.{Accept}
use Rattle.za_script.specs.Answer.{IsAnswer}
use Rattle.za_script.specs.ScriptLists.{script_of, AreScripts}
use Rattle.za_lang.proofs.Naming.{numbered_naming}
use Rattle.za_gen.specs.Limits.{letters_drawn}
use Rattle.za_gen.specs.Drawn.{drawn}
use Rattle.za_gen.specs.Generated.{generated_alphabet, generated_dfa, generated_scripts, generated_job, next_state}
use Rattle.za_gen.specs.Laws.{AreJobs, AreClosed, AreAccepted, FireAll, AreFewLetters}
use Rattle.za_gen.proofs.Draws.{drawn-word, length-drawn}
use Rattle.za_gen.proofs.Tables.{generated-complete, generated-closed}
use Rattle.za_gen.proofs.Fitting.{generated-fit, scripts-size}
use Rattle.za_gen.proofs.Accepted.{generated-accepted}
use Rattle.za_gen.proofs.Totals.{generated-few}
use Rattle.za_gen.proofs.Firing.{all-fire}

scripts-within : (w : List ℕ) → IsWord 8 w → length w ≤ letters_drawn → AreScripts (generated_scripts w)
scripts-within w h few =
    let size = scripts-size w in
    let total = generated-few w h in
    record { some_process = omega arith; few_processes = omega arith; few_letters = omega arith }

pub are_jobs : AreJobs
unfolding generated_job
are_jobs number =
    let w = drawn number letters_drawn in
    let h = drawn-word number letters_drawn in
    let size = length-drawn number letters_drawn in
    record {
      naming = numbered_naming 4 (omega arith);
      lang = whole_partial (generated_dfa w) (generated-complete (walk next_state 0 w)) (omega arith);
      limits = record { few_processes = omega arith; few_letters = omega arith; few_states = omega arith };
      scripts = scripts-within w h (omega arith);
      fit = generated-fit w h;
    }

pub are_closed : AreClosed
unfolding generated_job
are_closed number =
    let d = generated_dfa (drawn number letters_drawn) in
    subst (λ (x : CompleteDfa). IsTraceClosed (loc_of generated_alphabet) (automaton_of x)) (sym (whole_completes d))
    (generated-closed (walk next_state 0 (drawn number letters_drawn)))

pub are_accepted : AreAccepted
unfolding generated_job
are_accepted number =
    let w = drawn number letters_drawn in
    let d = generated_dfa w in
    subst (λ (x : CompleteDfa). IsAnswer (loc_of generated_alphabet) (automaton_of x) (script_of (generated_scripts w)) Accept) (sym (whole_completes d))
    (generated-accepted w (drawn-word number letters_drawn))

pub fire_all : FireAll
unfolding generated_job
fire_all number = all-fire (drawn number letters_drawn) (drawn-word number letters_drawn) ∙ length-drawn number letters_drawn

pub are_few : AreFewLetters
unfolding generated_job
are_few number =
    let few = generated-few (drawn number letters_drawn) (drawn-word number letters_drawn) in
    let size = length-drawn number letters_drawn in
    omega arith
