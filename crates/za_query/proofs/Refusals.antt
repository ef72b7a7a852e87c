-- What is said where bytes or their language are refused is the reply.
use Rattle.std.proofs.Common.{◌≡◌, ℕ, List, Result, Ok, Err, refl, sym, subst}
use Rattle.std.specs.Prelude.{IfOk}
use Rattle.za_alpha.specs.declared.fault.OutOfMemory.{OutOfMemory}
use Rattle.za_text.specs.declared.kind.TextFault.{TextFault}
use Rattle.za_lang.specs.Jobs.{JobData}
use Rattle.za_lang.specs.declared.fault.JobFault.{JobFault}
use Rattle.za_lang.specs.declared.fault.JobFault.TheVariants as job_fault
use Rattle.za_closure.specs.Breaks.{left_word, right_word}
use Rattle.za_report.specs.Texts.{open_text, refused_text}
use Rattle.za_query.specs.declared.query.Query.{Query}
use Rattle.za_query.specs.declared.query.Said.{Said}
use Rattle.za_query.specs.Replies.{IsFaultFor, IsRead, IsReply, Refused, Open}
use Rattle.za_query.specs.Judged.{SaysBreak}
use Rattle.za_query.specs.Private.Replying.{IsRefusalOf}

module _ (query : Query) (bytes : List ℕ) where
  -- with this status and this text
  pub reply-moves : (said : Said) (status : ℕ) (text : List ℕ) → said.status ≡ status → said.text.items ≡ text → IsReply query bytes status text →
      IsReply query bytes said.status said.text.items
  reply-moves said status text s t h =
      subst (λ (n : ℕ). IsReply query bytes n said.text.items) (sym s) (subst (λ (x : List ℕ). IsReply query bytes status x) (sym t) h)

  -- a fault of the bytes
  refusal-is : (fault : JobFault) (said : Said) → ((f : TextFault) → fault ≡ job_fault.Text f → IsFaultFor query bytes f) → IsRefusalOf fault said →
      IsReply query bytes said.status said.text.items
  refusal-is (job_fault.Text f) said wrong h = reply-moves said 4 (refused_text f) h.0 h.1 (Refused query bytes f (wrong f refl))
  refusal-is job_fault.OutOfMemory said wrong h = absurd h

  pub refusal-replied : (fault : JobFault) (r : Result Said OutOfMemory) → ((f : TextFault) → fault ≡ job_fault.Text f → IsFaultFor query bytes f) →
      IfOk r (IsRefusalOf fault) →
      IfOk r (λ said. IsReply query bytes said.status said.text.items)
  refusal-replied fault (Ok said) wrong h = refusal-is fault said wrong h
  refusal-replied fault (Err e) wrong h = tt

  -- a break of the language of their job
  pub break-replied : (job : JobData) (said : Said) → IsRead query bytes job → SaysBreak job said → IsReply query bytes said.status said.text.items
  break-replied job said read h =
      reply-moves said 5 (open_text job.lang.alphabet (left_word h.0) (right_word h.0)) h.2 h.3 (Open query bytes job h.0 read h.1)
