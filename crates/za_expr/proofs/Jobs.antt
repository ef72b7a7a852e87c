-- The job of a document without a fault is a job, and there is one.
use Rattle.std.proofs.Common.{◌≡◌, ◌∙◌, ap, sym, subst, refl, ℕ, ◌≤◌, List, length, None}
use Rattle.za_alpha.specs.Alphabet.{DistributedAlphabet, IsDistributed}
use Rattle.za_text.specs.Lines.{RawLine, lines_of}
use Rattle.za_dfa.specs.Partials.{PartialDfa, whole_of}
use Rattle.za_dfa.specs.Tables.{CompleteDfa}
use Rattle.za_dfa.proofs.Completing.{whole_partial}
use Rattle.za_script.specs.ScriptLists.{FitAlphabet}
use Rattle.za_lang.specs.declared.version.Version.TheVariants.{Two}
use Rattle.za_lang.specs.Jobs.{JobData, IsJob}
use Rattle.za_lang.specs.Limits.{document_processes, document_letters, document_states}
use Rattle.za_lang.specs.Namings.{Naming, IsNaming}
use Rattle.za_lang.specs.Documents.{Said, said, scripts_said, job_said}
use Rattle.za_lang.proofs.Saying.{said_version}
use Rattle.za_lang.proofs.Sound.{job_of_whole}
use Rattle.za_print.specs.Printed.{printed}
use Rattle.za_print.proofs.ReadBack.{read_back}
use Rattle.za_form.proofs.SomeTable.{some_table}
use Rattle.za_expr.specs.Built.{alphabet_said, IsJobSaid, IsBuilt}
use Rattle.za_expr.specs.Documents.{tokens_in, said_with, HasFault}
use Rattle.za_expr.specs.Laws.{BuiltAreJobs}
use Rattle.za_expr.proofs.Sound.{IsWholeWith, with_table, lines_whole}

-- the job that lines say with this table
abbrev job_with : Said → CompleteDfa → JobData
job_with s dfa = record { naming = s.naming; lang = whole_of dfa; scripts = scripts_said s }

said_job : (s : Said) (tokens : List (List ℕ)) (job : JobData) → (is : IsJobSaid s tokens job) → job ≡ job_with s is.dfa
said_job s tokens job is =
    let of : Naming → PartialDfa → List (List ℕ) → JobData = λ naming lang scripts. record { naming = naming; lang = lang; scripts = scripts } in
    ap (λ naming. of naming job.lang job.scripts) is.naming
    ∙ ap (λ lang. of s.naming lang job.scripts) is.lang
    ∙ ap (of s.naming (whole_of is.dfa)) is.scripts

-- what holds of the job that has a table of one state in place of the expression's holds of this one
other_table : (s : Said) (tokens : List (List ℕ)) (job : JobData) → s.naming.version ≡ Two → IsJob (job_said (with_table s)) →
    (is : IsJobSaid s tokens job) → IsJob (job_with s is.dfa)
other_table s tokens job version whole is =
    let same : alphabet_said s ≡ is.dfa.alphabet = sym is.values.same in
    let few : is.dfa.states ≤ document_states s.naming.version = subst (λ v. is.dfa.states ≤ document_states v) (sym version) is.values.few in
    record {
      naming = subst (λ (a : DistributedAlphabet). IsNaming s.naming a.processes) same whole.naming;
      lang = whole_partial is.dfa is.values.complete is.values.few;
      limits = record {
        few_processes = subst (λ (a : DistributedAlphabet). a.processes ≤ document_processes s.naming.version) same whole.limits.few_processes;
        few_letters = subst (λ (a : DistributedAlphabet). length a.letters ≤ document_letters s.naming.version) same whole.limits.few_letters;
        few_states = few;
      };
      scripts = whole.scripts;
      fit = subst (λ a. FitAlphabet a (scripts_said s)) same whole.fit;
    }

module _ (bytes : List ℕ) (right : HasFault bytes None) where
  abbrev lines : List RawLine
  lines = lines_of bytes

  abbrev s : Said
  s = said Two lines

  all : IsWholeWith (said_with lines) (tokens_in lines)
  all = lines_whole lines right

  plain_job : IsJob (job_said (with_table (said_with lines)))
  plain_job = job_of_whole (with_table (said_with lines)) all.whole

  -- each job of the document is one
  pub is_job : (job : JobData) → IsJobSaid s (tokens_in lines) job → IsJob job
  is_job job is = subst IsJob (sym (said_job s (tokens_in lines) job is)) (other_table s (tokens_in lines) job (said_version Two lines) plain_job is)

  -- there is one
  some_job : (job : JobData) × IsJobSaid s (tokens_in lines) job
  some_job =
      let narrow = all.narrow in
      let form = narrow.expression.form in
      let distributed : IsDistributed (alphabet_said s) = plain_job.lang.distributed in
      let table = some_table (alphabet_said s) narrow.signs form.0 distributed form.1 (narrow.few form.0 form.1) in (
        job_with s table.0,
        record { naming = refl; signs = narrow.signs; expression = narrow.expression; dfa = table.0; values = table.1; lang = refl; scripts = refl },
      )

  -- and its printed form is built
  pub some_text : (text : List ℕ) × IsBuilt bytes text
  some_text =
      let job = some_job in
      let back = read_back job.0 (is_job job.0 job.1) in (
        printed job.0,
        record {
          right = right;
          job = subst (λ j. IsJobSaid s (tokens_in lines) j) (sym back.1) job.1;
          printed_form = ap printed (sym back.1);
          document = back.0;
        },
      )

pub built_are_jobs : BuiltAreJobs
built_are_jobs bytes job right is = is_job bytes right job is
