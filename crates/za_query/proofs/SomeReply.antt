-- To what is asked of bytes some status and some text are replied.
use Rattle.std.proofs.Common.{◌≡◌, ◌⊎◌, ℕ, inl, inr, List, Option, Some, None, refl}
use Rattle.za_alpha.specs.Alphabet.{loc_of}
use Rattle.za_alpha.proofs.RowLemmas.{none_of_or}
use Rattle.za_dfa.specs.Automata.{IsTraceClosed}
use Rattle.za_dfa.specs.Partials.{completion}
use Rattle.za_dfa.specs.Tables.{automaton_of}
use Rattle.za_dfa.proofs.Completing.{completion_complete}
use Rattle.za_min.proofs.Existence.{minimal_dfas_exist}
use Rattle.za_closure.specs.Breaks.{Break, IsLeastBreak, left_word, right_word}
use Rattle.za_closure.proofs.Decided.{closed_or_broken}
use Rattle.za_text.specs.declared.kind.TextFault.{TextFault}
use Rattle.za_lang.specs.Documents.{fault_of, job_of}
use Rattle.za_lang.specs.Jobs.{JobData, IsJob}
use Rattle.za_lang.proofs.Sound.{documents_are_jobs}
use Rattle.za_expr.specs.Built.{IsBuilt}
use Rattle.za_expr.specs.Documents.{HasFault}
use Rattle.za_expr.proofs.Judged.{built_or_refused}
use Rattle.za_news.specs.NewsTexts.{document_bytes, news_fault, news_job, news_readings}
use Rattle.za_news.specs.Texts.{news_text}
use Rattle.za_freeze.specs.Frozen.{frozen_text}
use Rattle.za_report.specs.Texts.{open_text, refused_text}
use Rattle.za_query.specs.declared.query.Query.{Query}
use Rattle.za_query.specs.declared.query.Query.TheVariants.{Build, News, Freeze}
use Rattle.za_query.specs.Replies.{IsFaultFor, IsRead, IsReply, Refused, Open, Built, Told, Frozen}
use Rattle.za_query.specs.Laws.{SomethingIsReplied}

abbrev HasReply : Query → List ℕ → Type 0
HasReply query bytes = (status : ℕ) × (text : List ℕ) × IsReply query bytes status text

refusal-exists : (query : Query) (bytes : List ℕ) (fault : TextFault) → IsFaultFor query bytes fault → HasReply query bytes
refusal-exists query bytes fault wrong = (4, refused_text fault, Refused query bytes fault wrong)

break-exists : (query : Query) (bytes : List ℕ) (job : JobData) (k : Break) → IsRead query bytes job →
    IsLeastBreak (loc_of job.lang.alphabet) (automaton_of (completion job.lang)) k → HasReply query bytes
break-exists query bytes job k right least =
    (5, open_text job.lang.alphabet (left_word k) (right_word k), Open query bytes job k right least)

-- a job's language is closed or has a least break
closed-or-not : (job : JobData) → IsJob job → IsTraceClosed (loc_of job.lang.alphabet) (automaton_of (completion job.lang))
    ⊎ ((k : Break) × IsLeastBreak (loc_of job.lang.alphabet) (automaton_of (completion job.lang)) k)
closed-or-not job fine = closed_or_broken (completion job.lang) (completion_complete job.lang fine.lang)

news-by : (bytes : List ℕ) (o : Option TextFault) → news_fault bytes ≡ o → HasReply News bytes
news-by bytes (Some fault) e = refusal-exists News bytes fault e
news-by bytes None e =
    let job : JobData = news_job bytes in
    let fine : IsJob job = documents_are_jobs (document_bytes bytes) (none_of_or (fault_of (document_bytes bytes)) _ e).0 in
    elim (closed-or-not job fine) [
      | inl closed ↦ (0, news_text job (news_readings bytes), Told bytes job (e, fine, refl) closed)
      | inr k ↦ break-exists News bytes job k.0 (e, fine, refl) k.1
    ]

freeze-by : (bytes : List ℕ) (cut : ℕ) (o : Option TextFault) → fault_of bytes ≡ o → HasReply (Freeze cut) bytes
freeze-by bytes cut (Some fault) e = refusal-exists (Freeze cut) bytes fault e
freeze-by bytes cut None e =
    let job : JobData = job_of bytes in
    let fine : IsJob job = documents_are_jobs bytes e in
    let d = minimal_dfas_exist (completion job.lang) (completion_complete job.lang fine.lang) in
    elim (closed-or-not job fine) [
      | inl closed ↦ (0, frozen_text job d.0 cut, Frozen bytes job cut d.0 (e, fine, refl) (record { minimal = d.1; closed = closed }))
      | inr k ↦ break-exists (Freeze cut) bytes job k.0 (e, fine, refl) k.1
    ]

build-by : (bytes : List ℕ) → (((fault : TextFault) × HasFault bytes (Some fault)) ⊎ ((text : List ℕ) × IsBuilt bytes text)) → HasReply Build bytes
build-by bytes (inl h) = refusal-exists Build bytes h.0 h.1
build-by bytes (inr h) = (0, h.0, Built bytes h.0 h.1)

pub something_is_replied : SomethingIsReplied
something_is_replied Build bytes = build-by bytes (built_or_refused bytes)
something_is_replied News bytes = news-by bytes (news_fault bytes) refl
something_is_replied (Freeze cut) bytes = freeze-by bytes cut (fault_of bytes) refl
