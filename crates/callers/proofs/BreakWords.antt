-- The two words of a break are equivalent words over the alphabet, of which exactly one is accepted.
use Rattle.std.proofs.Common.{◌≡◌, ◌≢◌, ℕ, ◌<◌, Bool, true, false, List, ◌∷◌, refl, sym, ap, ◌∙◌, arith}
use Rattle.std.proofs.lemmas.List.Elements.{All-cons, All-append}
use Rattle.za_alpha.specs.Words.{IsAlphabet, IsWord, projection, AreEquivalent, Done, Then}
use Rattle.za_alpha.specs.Alphabet.{loc_of}
use Rattle.za_alpha.proofs.Swaps.{equivalence_is_swapping}
use Rattle.za_dfa.specs.Automata.{Automaton, is_accepted}
use Rattle.za_dfa.specs.Tables.{CompleteDfa, IsComplete, automaton_of}
use Rattle.za_closure.specs.Breaks.{Break, IsBreak, AreBreakWords, left_word, right_word}

module _ (loc : ℕ → List ℕ) (d : Automaton) (k : Break) (is : IsBreak loc d k) where
  two : (a b : ℕ) → a < d.letters → b < d.letters → IsWord d.letters (a ∷ b ∷ k.after)
  two a b al bl = All-cons (λ c. c < d.letters) a (b ∷ k.after) al (All-cons (λ c. c < d.letters) b k.after bl is.after_word)

  left-word : IsWord d.letters (left_word k)
  left-word =
      let o = is.order in let l = is.letter in
      All-append (λ c. c < d.letters) k.before (k.left ∷ k.right ∷ k.after) is.before_word (two k.left k.right (omega arith) l)

  right-word : IsWord d.letters (right_word k)
  right-word =
      let o = is.order in let l = is.letter in
      All-append (λ c. c < d.letters) k.before (k.right ∷ k.left ∷ k.after) is.before_word (two k.right k.left l (omega arith))

  break-equivalent : (processes : ℕ) → IsAlphabet loc d.letters processes → AreEquivalent loc (left_word k) (right_word k)
  break-equivalent processes alphabet =
      (equivalence_is_swapping loc d.letters processes (left_word k) (right_word k) alphabet left-word right-word).1
      (Then (record { before = k.before; left = k.left; right = k.right; after = k.after; apart = is.apart; from = refl; to = refl }) Done)

-- the words of a table's break are one trace
pub words-equivalent : (dfa : CompleteDfa) (left right : List ℕ) → IsComplete dfa → AreBreakWords dfa left right →
    AreEquivalent (loc_of dfa.alphabet) left right
words-equivalent dfa left right whole words p =
    let loc = loc_of dfa.alphabet in
    ap (projection loc p) words.2 ∙ break-equivalent loc (automaton_of dfa) words.0 words.1.is dfa.alphabet.processes whole.distributed.located p
    ∙ ap (projection loc p) (sym words.3)

-- and it tells them apart
pub words-told : (dfa : CompleteDfa) (left right : List ℕ) → AreBreakWords dfa left right →
    is_accepted (automaton_of dfa) left ≢ is_accepted (automaton_of dfa) right
words-told dfa left right words same =
    words.1.is.tells (ap (is_accepted (automaton_of dfa)) (sym words.2) ∙ same ∙ ap (is_accepted (automaton_of dfa)) words.3)

-- of two different truths one is true
pub other-false : (a b : Bool) → a ≢ b → a ≡ true → b ≡ false
other-false a true differ t = absurd (differ t)
other-false a false differ t = refl

pub other-true : (a b : Bool) → a ≢ b → a ≡ false → b ≡ true
other-true a true differ f = refl
other-true a false differ f = absurd (differ f)
