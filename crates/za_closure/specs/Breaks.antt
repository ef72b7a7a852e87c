-- Breaks of a language: two neighbouring independent letters whose order it tells (Zielonka 1987). The
-- choice of the least break is zla's own.
use Rattle.std.specs.Prelude.{◌≡◌, ◌≢◌, ℕ, ◌≤◌, ◌<◌, List, ◌∷◌, ◌++◌, IsTrue, IsFalse}
use Rattle.za_alpha.specs.Alphabet.{loc_of}
use Rattle.za_alpha.specs.Words.{independent, IsWord}
use Rattle.za_dfa.specs.Automata.{Automaton, is_accepted}
use Rattle.za_dfa.specs.Tables.{CompleteDfa, automaton_of}
use Rattle.za_min.specs.Shortlex.{comes_before}
use Rattle.za_closure.specs.declared.closing.Open.{Open}
use Rattle.za_closure.specs.declared.closing.Open.TheVariants.{NotClosed, OutOfMemory}

-- two letters, and the words before and after them
pub record Break : Type 0 where
  pub before : List ℕ
  pub left : ℕ
  pub right : ℕ
  pub after : List ℕ

-- the two words of a break: they differ in the order of its letters alone
abbrev pub left_word : Break → List ℕ
left_word k = k.before ++ k.left ∷ k.right ∷ k.after

abbrev pub right_word : Break → List ℕ
right_word k = k.before ++ k.right ∷ k.left ∷ k.after

-- the letters are independent, the lesser first, and exactly one of the two words is accepted
pub record IsBreak (loc : ℕ → List ℕ) (d : Automaton) (k : Break) : Type 0 where
  pub before_word : IsWord d.letters k.before
  pub after_word : IsWord d.letters k.after
  pub order : k.left < k.right
  pub letter : k.right < d.letters
  pub apart : IsTrue (independent loc k.left k.right)
  pub tells : is_accepted d (left_word k) ≢ is_accepted d (right_word k)

-- the least break: the word before its letters is the shortlex-least of all breaks; among these breaks
-- its left letter is the least, then its right letter, and then the word after them is the shortlex-least
pub record IsLeastBreak (loc : ℕ → List ℕ) (d : Automaton) (k : Break) : Type 0 where
  pub is : IsBreak loc d k
  pub before : (l : Break) → IsBreak loc d l → IsFalse (comes_before l.before k.before)
  pub left : (l : Break) → IsBreak loc d l → l.before ≡ k.before → k.left ≤ l.left
  pub right : (l : Break) → IsBreak loc d l → l.before ≡ k.before → l.left ≡ k.left → k.right ≤ l.right
  pub after : (l : Break) → IsBreak loc d l → l.before ≡ k.before → l.left ≡ k.left → l.right ≡ k.right →
      IsFalse (comes_before l.after k.after)

-- the two words of the least break of the table's language
abbrev pub AreBreakWords : CompleteDfa → List ℕ → List ℕ → Type 0
AreBreakWords dfa left right =
    (k : Break) × IsLeastBreak (loc_of dfa.alphabet) (automaton_of dfa) k
    × (left ≡ left_word k) × (right ≡ right_word k)

-- what a refusal says: these two words, or the want of memory
abbrev pub IsCause : CompleteDfa → Open → Type 0
IsCause dfa (NotClosed left right) = AreBreakWords dfa left right
IsCause dfa OutOfMemory = Unit {0}
