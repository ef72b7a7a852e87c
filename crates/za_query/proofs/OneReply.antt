-- To what is asked of bytes one status and one text are replied.
use Rattle.std.proofs.Common.{◌≡◌, ℕ, true, false, List, Option, Some, None, sym, ap, subst, ◌∙◌, refl}
use Rattle.std.specs.Prelude.{unwrap_or, is_some}
use Rattle.za_alpha.specs.Alphabet.{loc_of}
use Rattle.za_dfa.specs.Automata.{IsTraceClosed}
use Rattle.za_dfa.specs.Partials.{completion}
use Rattle.za_dfa.specs.Tables.{CompleteDfa, automaton_of}
use Rattle.za_closure.specs.Breaks.{Break, IsBreak, IsLeastBreak, left_word, right_word}
use Rattle.za_closure.proofs.BreakLemmas.{least_breaks_are_one}
use Rattle.za_closure.proofs.ClosedLemmas.{closed_is_unbroken}
use Rattle.za_text.specs.declared.kind.TextFault.{TextFault}
use Rattle.za_lang.specs.Jobs.{JobData, IsJob}
use Rattle.za_expr.specs.Documents.{HasFault}
use Rattle.za_expr.specs.Built.{IsBuilt}
use Rattle.za_expr.proofs.OneFault.{texts_have_one_fault}
use Rattle.za_expr.proofs.Once.{built_once}
use Rattle.za_news.specs.NewsTexts.{news_readings}
use Rattle.za_news.specs.Texts.{news_text}
use Rattle.za_freeze.specs.Frozen.{frozen_text, IsAutomatonOf}
use Rattle.za_freeze.proofs.Undone.{automaton-one}
use Rattle.za_report.specs.Texts.{open_text, refused_text}
use Rattle.za_query.specs.declared.query.Query.{Query}
use Rattle.za_query.specs.declared.query.Query.TheVariants.{Build, News, Freeze}
use Rattle.za_query.specs.Replies.{IsFaultFor, IsRead, IsReply, Refused, Open, Built, Told, Frozen}
use Rattle.za_query.specs.Laws.{RepliesAreOne}

-- of two equal faults
some-one : (f g : TextFault) → Some f ≡ Some g → f ≡ g
some-one f g e = ap (λ o. unwrap_or o f) e

-- bytes are refused at one line
fault-one : (query : Query) (bytes : List ℕ) (f g : TextFault) → IsFaultFor query bytes f → IsFaultFor query bytes g → f ≡ g
fault-one Build bytes f g a b = some-one f g (texts_have_one_fault bytes (Some f) (Some g) a b)
fault-one News bytes f g a b = some-one f g (sym a ∙ b)
fault-one (Freeze cut) bytes f g a b = some-one f g (sym a ∙ b)

some-or-none : {o : Option TextFault} (f : TextFault) → o ≡ Some f → o ≡ None → ⊥
some-or-none f some none = let both : true ≡ false = ap is_some (sym some ∙ none) in absurd (cc)

-- or read
pub not-read : (query : Query) (bytes : List ℕ) (f : TextFault) (job : JobData) → IsFaultFor query bytes f → IsRead query bytes job → ⊥
not-read Build bytes f job wrong right = absurd right
not-read News bytes f job wrong right = some-or-none f wrong right.0
not-read (Freeze cut) bytes f job wrong right = some-or-none f wrong right.0

-- or built
pub not-built : (bytes : List ℕ) (f : TextFault) → HasFault bytes (Some f) → HasFault bytes None → ⊥
not-built bytes f wrong right = some-or-none f refl (texts_have_one_fault bytes (Some f) None wrong right)

-- as one job
pub job-one : (query : Query) (bytes : List ℕ) (i j : JobData) → IsRead query bytes i → IsRead query bytes j → i ≡ j
job-one Build bytes i j a b = absurd a
job-one News bytes i j a b = a.2 ∙ sym b.2
job-one (Freeze cut) bytes i j a b = a.2 ∙ sym b.2

-- which is a job
is-job : (query : Query) (bytes : List ℕ) (job : JobData) → IsRead query bytes job → IsJob job
is-job Build bytes job a = absurd a
is-job News bytes job a = a.1
is-job (Freeze cut) bytes job a = a.1

-- whose language is closed or has a break
pub not-both : (query : Query) (bytes : List ℕ) (i j : JobData) (k : Break) → IsRead query bytes i → IsRead query bytes j →
    IsBreak (loc_of i.lang.alphabet) (automaton_of (completion i.lang)) k → IsTraceClosed (loc_of j.lang.alphabet) (automaton_of (completion j.lang)) → ⊥
not-both query bytes i j k a b broken closed =
    let at = subst (λ (x : JobData). IsBreak (loc_of x.lang.alphabet) (automaton_of (completion x.lang)) k) (job-one query bytes i j a b) broken in
    (closed_is_unbroken (loc_of j.lang.alphabet) j.lang.alphabet.processes (automaton_of (completion j.lang))
    (is-job query bytes j b).lang.distributed.located).0 closed k at

-- one least break
open-one : (i j : JobData) (k l : Break) → i ≡ j → IsLeastBreak (loc_of i.lang.alphabet) (automaton_of (completion i.lang)) k →
    IsLeastBreak (loc_of j.lang.alphabet) (automaton_of (completion j.lang)) l →
    open_text i.lang.alphabet (left_word k) (right_word k) ≡ open_text j.lang.alphabet (left_word l) (right_word l)
open-one i j k l e a b =
    let at = subst (λ (x : JobData). IsLeastBreak (loc_of x.lang.alphabet) (automaton_of (completion x.lang)) k) e a in
    let one = least_breaks_are_one (loc_of j.lang.alphabet) (automaton_of (completion j.lang)) k l at b in
    ap (λ (x : JobData). open_text x.lang.alphabet (left_word k) (right_word k)) e
    ∙ ap (λ (x : Break). open_text j.lang.alphabet (left_word x) (right_word x)) one

-- and one automaton
frozen-one : (i j : JobData) (cut : ℕ) (d e : CompleteDfa) → i ≡ j → IsAutomatonOf i d → IsAutomatonOf j e → frozen_text i d cut ≡ frozen_text j e cut
frozen-one i j cut d e same a b =
    let one = automaton-one j d e (subst (λ (x : JobData). IsAutomatonOf x d) same a) b in
    ap (λ (x : JobData). frozen_text x d cut) same ∙ ap (λ (x : CompleteDfa). frozen_text j x cut) one

abbrev IsOne : (s t : ℕ) (x y : List ℕ) → Type 0
IsOne s t x y = (s ≡ t) × (x ≡ y)

-- a refusal is the only reply, and so are the words of a break
refused-one : (query : Query) (bytes : List ℕ) (f : TextFault) (t : ℕ) (y : List ℕ) → IsFaultFor query bytes f → IsReply query bytes t y →
    IsOne 4 t (refused_text f) y
refused-one query bytes f t y wrong (Refused q b g also) = (refl, ap (λ (x : TextFault). refused_text x) (fault-one query bytes f g wrong also))
refused-one query bytes f t y wrong (Open q b job k right least) = absurd (not-read query bytes f job wrong right)
refused-one query bytes f t y wrong (Built b text built) = absurd (not-built bytes f wrong built.right)
refused-one query bytes f t y wrong (Told b job right closed) = absurd (not-read News bytes f job wrong right)
refused-one query bytes f t y wrong (Frozen b job cut d right au) = absurd (not-read (Freeze cut) bytes f job wrong right)

broken-one : (query : Query) (bytes : List ℕ) (i : JobData) (k : Break) (t : ℕ) (y : List ℕ) → IsRead query bytes i →
    IsLeastBreak (loc_of i.lang.alphabet) (automaton_of (completion i.lang)) k → IsReply query bytes t y →
    IsOne 5 t (open_text i.lang.alphabet (left_word k) (right_word k)) y
broken-one query bytes i k t y right least (Refused q b f wrong) = absurd (not-read query bytes f i wrong right)
broken-one query bytes i k t y right least (Open q b j l also too) = (refl, open-one i j k l (job-one query bytes i j right also) least too)
broken-one query bytes i k t y right least (Built b text built) = absurd right
broken-one query bytes i k t y right least (Told b j also closed) = absurd (not-both News bytes i j k right also least.is closed)
broken-one query bytes i k t y right least (Frozen b j cut d also au) = absurd (not-both (Freeze cut) bytes i j k right also least.is au.closed)

told-one : (bytes : List ℕ) (i : JobData) (t : ℕ) (y : List ℕ) → IsRead News bytes i →
    IsTraceClosed (loc_of i.lang.alphabet) (automaton_of (completion i.lang)) →
    IsReply News bytes t y → IsOne 0 t (news_text i (news_readings bytes)) y
told-one bytes i t y right closed (Refused q b f wrong) = absurd (not-read News bytes f i wrong right)
told-one bytes i t y right closed (Open q b j k also least) = absurd (not-both News bytes j i k also right least.is closed)
told-one bytes i t y right closed (Told b j also too) = (refl, ap (λ (x : JobData). news_text x (news_readings bytes)) (job-one News bytes i j right also))

frozen-alone : (bytes : List ℕ) (i : JobData) (cut : ℕ) (d : CompleteDfa) (t : ℕ) (y : List ℕ) → IsRead (Freeze cut) bytes i → IsAutomatonOf i d →
    IsReply (Freeze cut) bytes t y → IsOne 0 t (frozen_text i d cut) y
frozen-alone bytes i cut d t y right au (Refused q b f wrong) = absurd (not-read (Freeze cut) bytes f i wrong right)
frozen-alone bytes i cut d t y right au (Open q b j k also least) = absurd (not-both (Freeze cut) bytes j i k also right least.is au.closed)
frozen-alone bytes i cut d t y right au (Frozen b j same e also too) = (refl, frozen-one i j cut d e (job-one (Freeze cut) bytes i j right also) au too)

built-one : (bytes x : List ℕ) (t : ℕ) (y : List ℕ) → IsBuilt bytes x → IsReply Build bytes t y → IsOne 0 t x y
built-one bytes x t y built (Refused q b f wrong) = absurd (not-built bytes f wrong built.right)
built-one bytes x t y built (Open q b j k right least) = absurd right
built-one bytes x t y built (Built b other also) = (refl, built_once bytes x y built also)

pub replies_are_one : RepliesAreOne
replies_are_one query bytes s t x y (Refused q b f wrong) other = refused-one query bytes f t y wrong other
replies_are_one query bytes s t x y (Open q b i k right least) other = broken-one query bytes i k t y right least other
replies_are_one query bytes s t x y (Built b text built) other = built-one bytes x t y built other
replies_are_one query bytes s t x y (Told b i right closed) other = told-one bytes i t y right closed other
replies_are_one query bytes s t x y (Frozen b i cut d right au) other = frozen-alone bytes i cut d t y right au other
