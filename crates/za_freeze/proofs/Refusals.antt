-- Why a text is refused whose cut line is right.
use Rattle.std.proofs.Common.{◌≡◌, ◌∙◌, ap, sym, subst, ℕ, ◌+◌, inr, List, Option, Some, None, refl}
use Rattle.std.specs.Option.{option_map}
use Rattle.za_text.specs.Lines.{lines_of}
use Rattle.za_text.specs.declared.kind.Kind.TheVariants.{NotOwn}
use Rattle.za_dfa.specs.Partials.{completion}
use Rattle.za_dfa.specs.Tables.{CompleteDfa}
use Rattle.za_closure.specs.Breaks.{AreBreakWords, IsCause}
use Rattle.za_closure.specs.declared.closing.Open.{Open}
use Rattle.za_closure.specs.declared.closing.Open.TheVariants as language
use Rattle.za_lang.specs.Documents.{next_fault}
use Rattle.za_lang.specs.Jobs.{JobData}
use Rattle.za_freeze.specs.declared.thawing.ThawFault.{ThawFault}
use Rattle.za_freeze.specs.declared.thawing.ThawFault.TheVariants as thaw_fault
use Rattle.za_freeze.specs.Frozen.{frozen_text, IsAutomatonOf}
use Rattle.za_freeze.specs.Thawing.{frozen_job, cut_of, reading_fault, first_other, fault_against, IsRefusedFor}
use Rattle.za_freeze.specs.Private.Reading.{fault_of_language, IsUnlike}
use Rattle.za_freeze.proofs.FirstOther.{same-text}

module _ (bytes : List ℕ) (job : JobData) (said : job ≡ frozen_job bytes) (right : reading_fault bytes ≡ None) where
  -- a language that isn't closed
  pub open-refused : (cause : Open) → IsCause (completion job.lang) cause → IsRefusedFor bytes (fault_of_language cause)
  open-refused (language.NotClosed left right') h = (right, subst (λ (j : JobData). AreBreakWords (completion j.lang) left right') said h)
  open-refused language.OutOfMemory h = tt

  -- another text
  pub unlike-refused : (d : CompleteDfa) (cut : ℕ) → cut ≡ cut_of bytes → IsAutomatonOf job d → (fault : ThawFault) →
      IsUnlike (frozen_text job d cut) bytes fault → IsRefusedFor bytes fault
  unlike-refused d cut same au (thaw_fault.Text fault) h =
      let own : frozen_text (frozen_job bytes) d (cut_of bytes) ≡ frozen_text job d cut =
      ap (λ (j : JobData). frozen_text j d (cut_of bytes)) (sym said) ∙ ap (frozen_text job d) (sym same) in
      inr (right, (d, subst (λ (j : JobData). IsAutomatonOf j d) said au, ap (λ (x : List ℕ). fault_against x bytes) own ∙ h))
  unlike-refused d cut same au (thaw_fault.NotClosed left right') h = absurd h
  unlike-refused d cut same au thaw_fault.OutOfMemory h = tt

one-more : (o : Option ℕ) → option_map (λ n. next_fault n NotOwn) o ≡ option_map (λ n. record { line = n; kind = NotOwn }) (option_map (λ n. n + 1) o)
one-more None = refl
one-more (Some n) = refl

-- the first line that differs, by its number
pub other-fault : (own text : List ℕ) (line : ℕ) → Some line ≡ option_map (λ n. n + 1) (first_other (lines_of text) (lines_of own)) →
    fault_against own text ≡ Some (record { line = line; kind = NotOwn })
other-fault own text line h =
    one-more (first_other (lines_of text) (lines_of own)) ∙ ap (option_map (λ n. record { line = n; kind = NotOwn })) (sym h)

none-of : (o : Option ℕ) → None ≡ option_map (λ n. n + 1) o → o ≡ None
none-of None h = refl
none-of (Some n) h = cc

-- no line does
pub no-other : (own text : List ℕ) → None ≡ option_map (λ n. n + 1) (first_other (lines_of text) (lines_of own)) → text ≡ own
no-other own text h = same-text text own (none-of (first_other (lines_of text) (lines_of own)) h)
