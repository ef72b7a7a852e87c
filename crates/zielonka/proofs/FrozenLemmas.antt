-- Frozen texts of jobs whose languages are trace-closed are what `thaw` reads.
use Rattle.std.proofs.Common.{◌≡◌, ◌≢◌, ◌⊎◌, inl, inr, ◌∙◌, ap, sym, subst, ℕ, List, Option, Some, None, refl}
use Rattle.std.specs.Option.{option_map}
use Rattle.za_alpha.specs.Alphabet.{loc_of}
use Rattle.za_alpha.proofs.RowLemmas.{none_of_or}
use Rattle.za_dfa.specs.Automata.{IsTraceClosed}
use Rattle.za_dfa.specs.Tables.{CompleteDfa, automaton_of}
use Rattle.za_dfa.proofs.Completing.{completion_complete}
use Rattle.za_min.proofs.Existence.{minimal_dfas_exist}
use Rattle.za_closure.specs.Breaks.{Break, IsLeastBreak}
use Rattle.za_text.specs.Lines.{lines_of}
use Rattle.za_text.specs.declared.kind.TextFault.{TextFault}
use Rattle.za_text.specs.declared.kind.Kind.TheVariants.{NotOwn as OtherLine}
use Rattle.za_lang.specs.Documents.{fault_of, next_fault}
use Rattle.za_lang.specs.Jobs.{JobData, IsJob}
use Rattle.za_lang.proofs.Sound.{documents_are_jobs}
use Rattle.za_freeze.specs.Frozen.{frozen_text, IsAutomatonOf, IsThawed}
use Rattle.za_freeze.specs.Thawing.{bytes_before, reading_fault, frozen_job, cut_of, first_other, not_own_fault, IsNotOwn}
use Rattle.za_freeze.proofs.FirstOther.{same-text}
use Rattle.za_freeze.proofs.ReadBack.{frozen_texts_are_read_back}
use Rattle.za_freeze.proofs.Undone.{automaton-one}
use Rattle.zielonka.specs.declared.request.Command.{Command}
use Rattle.zielonka.specs.declared.request.Command.TheVariants.{Solo, Run, Check, Locals, Journal, Audit, Thaw}
use Rattle.zielonka.specs.Output.{IsOwn, subject_of, fault_for, given}
use Rattle.zielonka.specs.Shown.{IsClosed, AreClosedJob}
use Rattle.zielonka.specs.Laws.{AreFrozen, FrozenTextsAreRead}
use Rattle.zielonka.proofs.OneOutput.{not-both}

-- the document of a frozen text that is right up to its cut line
pub frozen-document : (bytes : List ℕ) → reading_fault bytes ≡ None → fault_of (bytes_before bytes) ≡ None
frozen-document bytes e = (none_of_or (fault_of (bytes_before bytes)) _ e).0

pub frozen-job : (bytes : List ℕ) → reading_fault bytes ≡ None → IsJob (frozen_job bytes)
frozen-job bytes e = documents_are_jobs (bytes_before bytes) (frozen-document bytes e)

-- the other commands compare no lines
pub own-whole : (command : Command) (bytes : List ℕ) → command ≢ Thaw → IsOwn command bytes
own-whole (Solo cache) bytes other = tt
own-whole (Run cache) bytes other = tt
own-whole (Check cache) bytes other = tt
own-whole (Locals cache) bytes other = tt
own-whole (Journal cache) bytes other = tt
own-whole Audit bytes other = tt
own-whole Thaw bytes other = absurd (other refl)

-- and with a language that is open none are compared
pub own-open : (command : Command) (bytes : List ℕ) → IsJob (subject_of command bytes).job →
    (k : Break) → IsLeastBreak (loc_of (subject_of command bytes).job.lang.alphabet) (automaton_of (given (subject_of command bytes).job)) k →
    IsOwn command bytes
own-open (Solo cache) bytes fine k least = tt
own-open (Run cache) bytes fine k least = tt
own-open (Check cache) bytes fine k least = tt
own-open (Locals cache) bytes fine k least = tt
own-open (Journal cache) bytes fine k least = tt
own-open Audit bytes fine k least = tt
own-open Thaw bytes fine k least = λ d au. absurd (not-both (frozen_job bytes) fine k least au.closed)

-- the automaton of a job whose language is trace-closed
pub automaton-exists : (job : JobData) → IsJob job → IsClosed job → (d : CompleteDfa) × IsAutomatonOf job d
automaton-exists job fine closed =
    let m = minimal_dfas_exist (given job) (completion_complete job.lang fine.lang) in (m.0, record { minimal = m.1; closed = closed })

-- why a line isn't the text's own
abbrev HasOther : Command → List ℕ → Type 0
HasOther command bytes = (fault : TextFault) × (command ≡ Thaw) × IsNotOwn bytes fault

own-by : (bytes : List ℕ) (d : CompleteDfa) → reading_fault bytes ≡ None → IsAutomatonOf (frozen_job bytes) d →
    (o : Option TextFault) → not_own_fault d bytes ≡ o → IsOwn Thaw bytes ⊎ HasOther Thaw bytes
own-by bytes d right au None e = inl (λ c k. ap (λ (x : CompleteDfa). not_own_fault x bytes) (automaton-one (frozen_job bytes) c d k au) ∙ e)
own-by bytes d right au (Some fault) e = inr (fault, refl, (right, (d, au, e)))

-- the lines of a text are its own, or one of them isn't
pub own-or-other : (command : Command) (bytes : List ℕ) → fault_for command bytes ≡ None → IsJob (subject_of command bytes).job →
    IsClosed (subject_of command bytes).job →
    IsOwn command bytes ⊎ HasOther command bytes
own-or-other (Solo cache) bytes right fine closed = inl tt
own-or-other (Run cache) bytes right fine closed = inl tt
own-or-other (Check cache) bytes right fine closed = inl tt
own-or-other (Locals cache) bytes right fine closed = inl tt
own-or-other (Journal cache) bytes right fine closed = inl tt
own-or-other Audit bytes right fine closed = inl tt
own-or-other Thaw bytes right fine closed =
    let m = automaton-exists (frozen_job bytes) fine closed in own-by bytes m.0 right m.1 (not_own_fault m.0 bytes) refl

-- a frozen text is read, and says its job
module _ (bytes : List ℕ) (job : JobData) (d : CompleteDfa) (k : ℕ) (fine : IsJob job) (au : IsAutomatonOf job d) (text : bytes ≡ frozen_text job d k) where
  pub frozen-says : frozen_job bytes ≡ job
  frozen-says = let back = frozen_texts_are_read_back job d k fine au.minimal.alphabet in ap frozen_job text ∙ back.0

  pub frozen-closed : AreClosedJob Thaw bytes
  frozen-closed =
      let back = frozen_texts_are_read_back job d k fine au.minimal.alphabet in record {
        read = ap reading_fault text ∙ back.2;
        job = subst (λ (j : JobData). IsJob j) (sym frozen-says) fine;
        closed = subst (λ (j : JobData). IsTraceClosed (loc_of j.lang.alphabet) (automaton_of (given j))) (sym frozen-says) au.closed;
        own = λ e also.
            let one : e ≡ d = automaton-one job e d (subst (λ (j : JobData). IsAutomatonOf j e) frozen-says also) au in
            ap (λ (x : CompleteDfa). not_own_fault x bytes) one ∙ ap (not_own_fault d) text ∙ back.3;
      }

-- and so it is with what is left of a job by a frozen text
module _ (bytes : List ℕ) (job : JobData) (closed : CompleteDfa) (rest : List (List ℕ)) (fine : IsJob job) (left : IsThawed bytes job closed rest) where
  pub left-says : frozen_job bytes ≡ job
  left-says = frozen-says bytes job left.dfa left.cut fine left.automaton left.text

  pub left-closed : AreClosedJob Thaw bytes
  left-closed = frozen-closed bytes job left.dfa left.cut fine left.automaton left.text

none-other : (o : Option ℕ) → option_map (λ n. next_fault n OtherLine) o ≡ None → o ≡ None
none-other None e = refl
none-other (Some n) e = absurd (let both : Some (next_fault n OtherLine) ≡ None = e in cc)

-- what is read is a frozen text
closed-frozen : (bytes : List ℕ) → AreClosedJob Thaw bytes → AreFrozen bytes
closed-frozen bytes are =
    let job = frozen_job bytes in
    let m = automaton-exists job are.job are.closed in
    let own : List ℕ = frozen_text job m.0 (cut_of bytes) in
    let none = none-other (first_other (lines_of bytes) (lines_of own)) (are.own m.0 m.1) in
    (job, m.0, cut_of bytes, are.job, m.1, same-text bytes own none)

pub frozen_texts_are_read : FrozenTextsAreRead
frozen_texts_are_read bytes = (
  closed-frozen bytes,
  λ h. frozen-closed bytes h.0 h.1 h.2 h.3 h.4 h.5,
)
