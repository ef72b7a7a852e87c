-- The job of a document with an expression, and its text.
use Rattle.std.specs.Prelude.{◌≡◌, ℕ, List, length, Some, None}
use Rattle.za_alpha.specs.Alphabet.{DistributedAlphabet}
use Rattle.za_text.specs.Lines.{lines_of}
use Rattle.za_dfa.specs.Tables.{CompleteDfa}
use Rattle.za_dfa.specs.Partials.{whole_of}
use Rattle.za_lang.specs.declared.fault.JobFault.{JobFault}
use Rattle.za_lang.specs.declared.fault.JobFault.TheVariants as job_fault
use Rattle.za_lang.specs.declared.version.Version.TheVariants.{Two}
use Rattle.za_lang.specs.Jobs.{JobData}
use Rattle.za_lang.specs.Documents.{Said, said, scripts_said, fault_of, job_of}
use Rattle.za_print.specs.Printed.{printed}
use Rattle.za_expression.specs.declared.sign.Sign.{Sign}
use Rattle.za_form.specs.Expressions.{IsExpressionOf}
use Rattle.za_form.specs.Automata.{IsValueDfa}
use Rattle.za_expr.specs.Documents.{tokens_in, HasFault}

-- the alphabet that lines say
abbrev pub alphabet_said : Said → DistributedAlphabet
alphabet_said s = record { processes = length s.naming.names; letters = s.letters }

-- the job that lines say with an expression of these tokens: their names and scripts, and as its language the
-- table of the expression with all rows
pub record IsJobSaid (s : Said) (tokens : List (List ℕ)) (job : JobData) : Type 0 where
  pub naming : job.naming ≡ s.naming
  pub signs : List Sign
  pub expression : IsExpressionOf s.letters tokens signs
  pub dfa : CompleteDfa
  pub values : IsValueDfa (alphabet_said s) signs dfa
  pub lang : job.lang ≡ whole_of dfa
  pub scripts : job.scripts ≡ scripts_said s

-- the job of a document
abbrev pub IsJobOf : List ℕ → JobData → Type 0
IsJobOf bytes job = IsJobSaid (said Two (lines_of bytes)) (tokens_in (lines_of bytes)) job

-- the text is the printed form of the document's job, and says this job
pub record IsBuilt (bytes text : List ℕ) : Type 0 where
  pub right : HasFault bytes None
  pub job : IsJobOf bytes (job_of text)
  pub printed_form : text ≡ printed (job_of text)
  pub document : fault_of text ≡ None

-- what each answer without a text says: the document has this fault; want of memory says nothing
abbrev pub IsBuildFault : List ℕ → JobFault → Type 0
IsBuildFault bytes (job_fault.Text fault) = HasFault bytes (Some fault)
IsBuildFault bytes job_fault.OutOfMemory = Unit {0}
