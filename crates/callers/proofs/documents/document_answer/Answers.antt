use Rattle.std.proofs.Common.{List, ℕ, ap, subst, ◌∙◌}
use Rattle.za_alpha.specs.Alphabet.{loc_of}
use Rattle.za_dfa.specs.Diamonds.{BreaksDiamond}
use Rattle.za_dfa.specs.Partials.{completion}
use Rattle.za_dfa.specs.Tables.{CompleteDfa, automaton_of}
use Rattle.za_script.specs.Answer.{IsAnswer}
use Rattle.za_script.specs.ScriptLists.{script_of}
use Rattle.za_lang.specs.Jobs.{JobData}
use Rattle.za_lang.specs.Documents.{job_of}
use Rattle.callers.proofs.documents.document_answer.Goals as goal

pub returns-in-Err-new-clause-answer : goal.returns-in-Err-new-clause-answer
returns-in-Err-new-clause-answer c =
    let read = c.in_ok-job.ensures.answer.1 in
    subst (λ (d : CompleteDfa). BreaksDiamond (loc_of d.alphabet) (automaton_of d)) (c.in-Ok.ensures ∙ ap (λ (job : JobData). completion job.lang) read)
    c.in-Err-new.ensures.1

pub returns-in-Ok-answer-clause-answer : goal.returns-in-Ok-answer-clause-answer
returns-in-Ok-answer-clause-answer c =
    let read = c.in_ok-job.ensures.answer.1 in
    let d = completion (job_of c.args.bytes.now).lang in
    subst (λ (scripts : List (List ℕ)). IsAnswer (loc_of d.alphabet) (automaton_of d) (script_of scripts) c.in-Ok-answer.answer)
    (ap (λ (job : JobData). job.scripts) read)
    (subst (λ (d : CompleteDfa). IsAnswer (loc_of d.alphabet) (automaton_of d) (script_of c.in_ok-job.job.scripts) c.in-Ok-answer.answer)
    (c.in-Ok-new.ensures.0 ∙ c.in-Ok.ensures ∙ ap (λ (job : JobData). completion job.lang) read) c.in-Ok-answer.ensures)
