-- What a frozen text is refused for, and what it is thawed to.
use Rattle.std.proofs.Common.{◌≡◌, ◌∙◌, ap, sym, subst, ℕ, inl, inr, List, Some, None, refl, length}
use Rattle.std.proofs.lemmas.List.{length-take-le}
use Rattle.za_alpha.specs.Words.{IsWord}
use Rattle.za_alpha.specs.Alphabet.{DistributedAlphabet, loc_of}
use Rattle.za_dfa.specs.Tables.{CompleteDfa, automaton_of}
use Rattle.za_dfa.specs.Partials.{completion}
use Rattle.za_min.specs.Minimal.{MinimalDfa}
use Rattle.za_min.proofs.Canonical.{minimal_dfas_are_one}
use Rattle.za_closure.specs.Breaks.{AreBreakWords}
use Rattle.za_closure.proofs.ClosedLemmas.{closed_is_unbroken}
use Rattle.za_script.specs.Rests.{rest_of}
use Rattle.za_lang.specs.Jobs.{JobData, IsJob}
use Rattle.za_freeze.specs.declared.thawing.ThawFault.TheVariants as thaw_fault
use Rattle.za_freeze.specs.Frozen.{woven_of, cut_word, frozen_text, after_word, IsAutomatonOf, IsThawed}
use Rattle.za_freeze.specs.Thawing.{frozen_job, cut_of, not_own_fault}
use Rattle.za_freeze.specs.Laws.{FrozenTextsAreThawed, ThawedOnce}
use Rattle.za_freeze.proofs.ReadBack.{frozen_texts_are_read_back}

-- a job has one automaton
pub automaton-one : (job : JobData) (d e : CompleteDfa) → IsAutomatonOf job d → IsAutomatonOf job e → d ≡ e
automaton-one job d e h k =
    let m = h.minimal in
    let n = k.minimal in
    let same : d.alphabet ≡ e.alphabet = m.alphabet ∙ sym n.alphabet in
    ap (λ (x : MinimalDfa). x.dfa)
    (minimal_dfas_are_one (record { dfa = d; access = m.access }) (record { dfa = e; access = n.access }) m.complete n.complete
    (record { minimal = m.minimal; numbered = m.numbered }) (record { minimal = n.minimal; numbered = n.numbered }) same
    (λ w h. m.language w h ∙ sym (n.language w (subst (λ (a : DistributedAlphabet). IsWord (length a.letters) w) same h))))

pub frozen_texts_are_thawed : FrozenTextsAreThawed
frozen_texts_are_thawed job d k (thaw_fault.Text fault) whole au (inl h) =
    let back = frozen_texts_are_read_back job d k whole au.minimal.alphabet in
    let both : None ≡ Some fault = sym back.2 ∙ h in cc
frozen_texts_are_thawed job d k (thaw_fault.Text fault) whole au (inr h) =
    let back = frozen_texts_are_read_back job d k whole au.minimal.alphabet in
    let text = frozen_text job d k in
    let e : CompleteDfa = h.1.0 in
    let one : e ≡ d = automaton-one job e d (subst (λ (j : JobData). IsAutomatonOf j e) back.0 h.1.1) au in
    let both : None ≡ Some fault = sym back.3 ∙ ap (λ (x : CompleteDfa). not_own_fault x text) (sym one) ∙ h.1.2 in cc
frozen_texts_are_thawed job d k (thaw_fault.NotClosed left right) whole au h =
    let back = frozen_texts_are_read_back job d k whole au.minimal.alphabet in
    let given = completion job.lang in
    let broken = subst (λ (j : JobData). AreBreakWords (completion j.lang) left right) back.0 h.1 in
    absurd ((closed_is_unbroken (loc_of job.lang.alphabet) job.lang.alphabet.processes (automaton_of given) whole.lang.distributed.located).0 au.closed broken.0
    broken.1.is)
frozen_texts_are_thawed job d k thaw_fault.OutOfMemory whole au h = refl

-- the word at which a text was frozen
word-said : (bytes : List ℕ) (j : JobData) (c : CompleteDfa) (r : List (List ℕ)) → IsJob j → (t : IsThawed bytes j c r) →
    (frozen_job bytes ≡ j) × (cut_of bytes ≡ t.cut)
word-said bytes j c r whole t =
    let back = frozen_texts_are_read_back j t.dfa t.cut whole t.automaton.minimal.alphabet in
    (ap frozen_job t.text ∙ back.0, ap cut_of t.text ∙ back.1 ∙ length-take-le t.cut (woven_of j) t.within)

pub thawed_once : ThawedOnce
thawed_once bytes i j c d r s whole also t u =
    let a = word-said bytes i c r whole t in
    let b = word-said bytes j d s also u in
    let job : i ≡ j = sym a.0 ∙ b.0 in
    let cut : t.cut ≡ u.cut = sym a.1 ∙ b.1 in
    let word : cut_word i t.cut ≡ cut_word j u.cut = ap (λ (x : JobData). cut_word x t.cut) job ∙ ap (cut_word j) cut in
    let dfa : t.dfa ≡ u.dfa = automaton-one j t.dfa u.dfa (subst (λ (x : JobData). IsAutomatonOf x t.dfa) job t.automaton) u.automaton in (
      job,
      t.started ∙ ap (λ (x : CompleteDfa). after_word x (cut_word i t.cut)) dfa ∙ ap (after_word u.dfa) word ∙ sym u.started,
      t.rest ∙ ap (λ (x : JobData). rest_of x.lang.alphabet x.scripts (cut_word i t.cut)) job ∙ ap (rest_of j.lang.alphabet j.scripts) word ∙ sym u.rest,
    )
