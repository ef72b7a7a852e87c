-- What bytes come to, by what their job comes to.
use Rattle.std.proofs.Common.{◌≡◌, ◌≢◌, ℕ, inl, inr, List, None, refl, sym, ap, subst, ◌∙◌}
use Rattle.za_lang.specs.Jobs.{IsJob}
use Rattle.zielonka.specs.Output.{IsDueFor, Open, IsOutput, Refused as IsRefused, NotOwn, Read, SubjectData, subject_of, fault_for}
use Rattle.zielonka.specs.Shown.{IsClosed, AreClosedJob}
use Rattle.zielonka.specs.Private.Saying.{AreJudged, IsJudged}
use Rattle.zielonka.specs.declared.judging.Judged.{Judged}
use Rattle.zielonka.specs.declared.judging.Judged.TheVariants.{Refused, Ready, Rest}
use Rattle.zielonka.specs.declared.request.Command.{Command}
use Rattle.zielonka.specs.declared.request.Command.TheVariants.{Thaw}
use Rattle.za_closure.specs.Breaks.{AreBreakWords, left_word, right_word}
use Rattle.za_dfa.specs.Partials.{completion}
use Rattle.za_text.specs.declared.kind.TextFault.{TextFault}
use Rattle.za_freeze.specs.declared.thawing.ThawFault.TheVariants.{Text}
use Rattle.za_freeze.specs.Thawing.{reading_fault, frozen_job, IsRefusedFor}
use Rattle.za_report.specs.Texts.{open_text, refused_text}
use Rattle.za_query.specs.Judged.{SaysBreak}
use Rattle.za_query.specs.declared.query.Said.{Said}
use Rattle.zielonka.proofs.FrozenLemmas.{frozen-job, own-open, own-whole}
use Rattle.zielonka.proofs.OneOutput.{not-both, not-own, not-read}

-- where the language of a job has a break, the words of the least are due whatever the command is
pub break-due : (subject : SubjectData) (said : Said) → IsJob subject.job → SaysBreak subject.job said → IsJudged subject (Refused said)
break-due subject said fine h = (
  λ command. subst (λ (s : ℕ). IsDueFor command subject s said.text.items) (sym h.2)
      (subst (λ (t : List ℕ). IsDueFor command subject 5 t) (sym h.3) (Open h.0 h.1)),
  λ closed. not-both subject.job fine h.0 h.1 closed,
)

pub judged-bytes : (command : Command) (bytes : List ℕ) (subject : SubjectData) (judged : Judged) → command ≢ Thaw → fault_for command bytes ≡ None →
    subject ≡ subject_of command bytes →
    IsJob subject.job → IsJudged subject judged → AreJudged command bytes judged
judged-bytes command bytes subject (Refused said) whole right same fine h = (
  Read said.status said.text.items right (subst (λ (s : SubjectData). IsJob s.job) same fine) (own-whole command bytes whole)
      (subst (λ (s : SubjectData). IsDueFor command s said.status said.text.items) same (h.0 command)),
  λ are. h.1 (subst (λ (s : SubjectData). IsClosed s.job) (sym same) are.closed),
)
judged-bytes command bytes subject (Ready it) whole right same fine h = (h.0, right, h.1 ∙ same, whole)
judged-bytes command bytes subject (Rest it) whole right same fine h = absurd h

-- a frozen text is refused at a line
pub refused-frozen : (bytes : List ℕ) (fault : TextFault) → IsRefusedFor bytes (Text fault) →
    IsOutput Thaw bytes 4 (refused_text fault) × ¬ AreClosedJob Thaw bytes
refused-frozen bytes fault (inl wrong) = (IsRefused fault wrong, λ are. not-read Thaw bytes fault wrong are.read)
refused-frozen bytes fault (inr unlike) = (NotOwn fault refl unlike, λ are. not-own Thaw bytes fault refl unlike are.own)

-- or its language is open
pub open-frozen : (bytes left right : List ℕ) → reading_fault bytes ≡ None → AreBreakWords (completion (frozen_job bytes).lang) left right →
    IsOutput Thaw bytes 5 (open_text (frozen_job bytes).lang.alphabet left right) × ¬ AreClosedJob Thaw bytes
open-frozen bytes left right read words =
    let job = frozen_job bytes in
    let fine = frozen-job bytes read in
    let k = words.0 in
    let least = words.1 in
    let said : open_text job.lang.alphabet left right ≡ open_text job.lang.alphabet (left_word k) (right_word k) =
    ap (λ w. open_text job.lang.alphabet w right) words.2 ∙ ap (open_text job.lang.alphabet (left_word k)) words.3 in (
      subst (λ (t : List ℕ). IsOutput Thaw bytes 5 t) (sym said)
          (Read 5 (open_text job.lang.alphabet (left_word k) (right_word k)) read fine (own-open Thaw bytes fine k least) (Open k least)),
      λ are. not-both job fine k least are.closed,
    )
