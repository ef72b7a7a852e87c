-- What is replied to bytes of which something is asked that needs no run of their scripts.
use Rattle.std.specs.Prelude.{◌≡◌, ℕ, List, Some, None}
use Rattle.za_alpha.specs.Alphabet.{loc_of}
use Rattle.za_dfa.specs.Automata.{IsTraceClosed}
use Rattle.za_dfa.specs.Partials.{completion}
use Rattle.za_dfa.specs.Tables.{CompleteDfa, automaton_of}
use Rattle.za_closure.specs.Breaks.{Break, IsLeastBreak, left_word, right_word}
use Rattle.za_text.specs.declared.kind.TextFault.{TextFault}
use Rattle.za_lang.specs.Documents.{fault_of, job_of}
use Rattle.za_lang.specs.Jobs.{JobData, IsJob}
use Rattle.za_expr.specs.Built.{IsBuilt}
use Rattle.za_expr.specs.Documents.{HasFault}
use Rattle.za_news.specs.NewsTexts.{news_fault, news_job, news_readings}
use Rattle.za_news.specs.Texts.{news_text}
use Rattle.za_freeze.specs.Frozen.{frozen_text, IsAutomatonOf}
use Rattle.za_report.specs.Texts.{open_text, refused_text}
use Rattle.za_query.specs.declared.query.Query.{Query}
use Rattle.za_query.specs.declared.query.Query.TheVariants.{Build, News, Freeze}

-- the first wrong line of the bytes, with its first kind: of a document with an expression, of a job with readings, of
-- a job
abbrev pub IsFaultFor : Query → List ℕ → TextFault → Type 0
IsFaultFor Build bytes fault = HasFault bytes (Some fault)
IsFaultFor News bytes fault = news_fault bytes ≡ Some fault
IsFaultFor (Freeze cut) bytes fault = fault_of bytes ≡ Some fault

-- no line is wrong, and this is the job that the bytes say, whose language has to be trace-closed. Of a document with
-- an expression it doesn't have to be
abbrev pub IsRead : Query → List ℕ → JobData → Type 0
IsRead Build bytes job = ⊥
IsRead News bytes job = (news_fault bytes ≡ None) × IsJob job × (job ≡ news_job bytes)
IsRead (Freeze cut) bytes job = (fault_of bytes ≡ None) × IsJob job × (job ≡ job_of bytes)

-- the status and the text that are replied
pub data IsReply : Query → List ℕ → ℕ → List ℕ → Type 0 where
  -- a line is wrong: the first, and its first kind
  Refused : (query : Query) (bytes : List ℕ) (fault : TextFault) → IsFaultFor query bytes fault →
      IsReply query bytes 4 (refused_text fault)
  -- the language of the job has a break: the two words of the least one
  Open : (query : Query) (bytes : List ℕ) (job : JobData) (k : Break) → IsRead query bytes job →
      IsLeastBreak (loc_of job.lang.alphabet) (automaton_of (completion job.lang)) k →
      IsReply query bytes 5 (open_text job.lang.alphabet (left_word k) (right_word k))
  -- the job that a document says by its expression
  Built : (bytes text : List ℕ) → IsBuilt bytes text → IsReply Build bytes 0 text
  -- what each process knows of each after the weave, whose events write the readings
  Told : (bytes : List ℕ) (job : JobData) → IsRead News bytes job →
      IsTraceClosed (loc_of job.lang.alphabet) (automaton_of (completion job.lang)) →
      IsReply News bytes 0 (news_text job (news_readings bytes))
  -- the job, and what its processes know after so many events of the weave
  Frozen : (bytes : List ℕ) (job : JobData) (cut : ℕ) (d : CompleteDfa) → IsRead (Freeze cut) bytes job →
      IsAutomatonOf job d → IsReply (Freeze cut) bytes 0 (frozen_text job d cut)
