use Rattle.std.proofs.Common.{◌≡◌, IfOk, None, ap, subst, ◌∙◌, length, List, ℕ, arith}
use Rattle.za_lang.specs.Jobs.{JobData}
use Rattle.za_lang.specs.Documents as document
use Rattle.za_lang.specs.Answers.{data_of}
use Rattle.za_print.specs.Printed.{printed}
use Rattle.za_gen.specs.Limits.{letters_drawn}
use Rattle.za_gen.specs.Drawn.{drawn}
use Rattle.za_gen.specs.Generated.{job_by, generated_job}
use Rattle.za_gen.proofs.Draws.{length-drawn}
use Rattle.za_gen.proofs.job.job_of.Goals as goal

pub job_by-requires-clause-few : goal.job_by-requires-clause-few
job_by-requires-clause-few c =
    let is = ap (λ (w : List ℕ). length w) c.in_ok-word.ensures.value in let size = length-drawn c.args.number letters_drawn in omega arith

job_is : (number : ℕ) (w : List ℕ) (job : JobData) → job ≡ job_by w → w ≡ drawn number letters_drawn → job ≡ generated_job number
unfolding generated_job
job_is number w job e f = e ∙ ap job_by f

pub returns-clause-text : goal.returns-clause-text
returns-clause-text c =
    let is = job_is c.args.number _ (data_of c.in_ok-job.job) c.in_ok-job.ensures.value c.in_ok-word.ensures.value in
    subst (λ (j : JobData). IfOk c.print_job.result (λ text. text.items ≡ printed j)) is c.print_job.ensures.text

pub returns-clause-read : goal.returns-clause-read
returns-clause-read c =
    let is = job_is c.args.number _ (data_of c.in_ok-job.job) c.in_ok-job.ensures.value c.in_ok-word.ensures.value in
    subst (λ (j : JobData). IfOk c.print_job.result (λ text. (document.fault_of text.items ≡ None) × (document.job_of text.items ≡ j))) is
    c.print_job.ensures.read_back
