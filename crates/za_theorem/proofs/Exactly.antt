-- Exactly the regular trace-closed languages are accepted by asynchronous automata.
use Rattle.std.proofs.Common.{◌≡◌, ℕ, zero, suc, Bool, List, refl, sym, subst, ◌∙◌}
use Rattle.za_alpha.specs.Words.{IsAlphabet, IsWord}
use Rattle.za_dfa.specs.Automata.{Automaton, is_accepted}
use Rattle.za_theorem.specs.Asynchronous.{IsAsynchronous, accepts_word}
use Rattle.za_theorem.specs.Languages.{AreProcesses, Accepts, IsRegular, IsDiamondRegular, IsClosedLanguage, IsDistributable}
use Rattle.za_theorem.specs.Laws.{DistributableByDiamonds, ZielonkasTheorem, ClosedIsDistributable}
use Rattle.za_theorem.proofs.Theorem.{diamonds_give_asynchronous}
use Rattle.za_theorem.proofs.Moves.{asynchronous_is_closed}
use Rattle.za_theorem.proofs.Regular.{asynchronous_is_regular}
use Rattle.za_theorem.proofs.Closed.{closed_has_diamonds}
use Rattle.za_theorem.proofs.Unseen.{filled, filled-alphabet, filled-diamonds, filled-accepts, nobody-distributable}

-- one language for another on words
like : (letters : ℕ) (d : Automaton) (l k : List ℕ → Bool) → Accepts letters d l → ((w : List ℕ) → IsWord letters w → l w ≡ k w) → Accepts letters d k
like letters d l k h same = record { same_letters = h.same_letters; total = h.total; words = λ w word. h.words w word ∙ same w word }

module _ (loc : ℕ → List ℕ) (letters n : ℕ) (language : List ℕ → Bool) where
  to-diamonds : AreProcesses loc letters n → IsDistributable loc letters n language → IsDiamondRegular loc letters language
  to-diamonds inside h =
      let r = asynchronous_is_regular loc letters n h.0 inside h.1.whole in
      (r.0, like letters r.0 (accepts_word loc n h.0) language r.1 h.1.words, r.2)

  from-diamonds : IsAlphabet loc letters n → IsDiamondRegular loc letters language → IsDistributable loc letters n language
  from-diamonds alphabet h =
      let e = h.1.same_letters in
      let r = diamonds_give_asynchronous loc n h.0
      (record { alphabet = subst (λ k. IsAlphabet loc k n) (sym e) alphabet; total = h.1.total; diamonds = h.2 }) in (
        r.0,
        record {
          whole = subst (λ k. IsAsynchronous loc k n r.0) e r.1.accepts.whole;
          words = λ w word. r.1.accepts.words w (subst (λ k. IsWord k w) (sym e) word) ∙ h.1.words w word;
        },
      )

  pub to-closed : IsDistributable loc letters n language → IsClosedLanguage loc letters language
  to-closed h u v wu wv e = sym (h.1.words u wu) ∙ (asynchronous_is_closed loc n h.0 u v e).1 ∙ h.1.words v wv

  from-closed : IsRegular letters language → IsClosedLanguage loc letters language → IsDiamondRegular loc letters language
  from-closed r closed =
      let d : Automaton = r.0 in
      let e = r.1.same_letters in
      let over : (w : List ℕ) → IsWord d.letters w → IsWord letters w = λ w. subst (λ k. IsWord k w) e in
      let k =
      closed_has_diamonds loc d r.1.total
      (λ u v wu wv same. r.1.words u (over u wu) ∙ closed u v (over u wu) (over v wv) same ∙ sym (r.1.words v (over v wv))) in (
        k.0,
        record {
          same_letters = k.1.same_letters ∙ e;
          total = k.1.total;
          words = λ w word. k.1.words w (subst (λ k. IsWord k w) (sym e) word) ∙ r.1.words w word;
        },
        k.2,
      )

pub distributable_by_diamonds : DistributableByDiamonds
distributable_by_diamonds loc letters n language alphabet =
    (to-diamonds loc letters n language alphabet.below, from-diamonds loc letters n language alphabet)

from-regular : (loc : ℕ → List ℕ) (letters n : ℕ) (language : List ℕ → Bool) → AreProcesses loc letters n → IsRegular letters language →
    IsClosedLanguage loc letters language → IsDistributable loc letters n language
from-regular loc letters zero language inside regular closed = nobody-distributable loc letters language inside closed
from-regular loc letters (suc n) language inside regular closed =
    let d = from-closed loc letters (suc n) language regular closed in
    let r = from-diamonds (filled loc) letters (suc n) language (filled-alphabet loc letters n inside) (d.0, d.1, filled-diamonds loc d.0 d.2) in
    (r.0, filled-accepts loc letters (suc n) r.0 language closed r.1)

pub zielonkas_theorem : ZielonkasTheorem
zielonkas_theorem loc letters n language inside = (
  λ h. let d = to-diamonds loc letters n language inside h in ((d.0, d.1), to-closed loc letters n language h),
  λ h. from-regular loc letters n language inside h.0 h.1,
)

pub closed_is_distributable : ClosedIsDistributable
closed_is_distributable loc n d inside total =
    let both = zielonkas_theorem loc d.letters n (is_accepted d) inside in
    (λ h. (both.0 h).1, λ closed. both.1 ((d, record { same_letters = refl; total = total; words = λ w word. refl }), closed))
