-- The automaton of an expression.
use Rattle.std.specs.Prelude.{◌≡◌, ℕ, ◌≤◌, ◌↔◌, List, length}
use Rattle.za_alpha.specs.Alphabet.{DistributedAlphabet}
use Rattle.za_alpha.specs.Words.{IsWord}
use Rattle.za_dfa.specs.Limits.{most_states}
use Rattle.za_dfa.specs.Automata.{walk, is_accepted}
use Rattle.za_dfa.specs.Tables.{CompleteDfa, IsComplete, automaton_of, step_of}
use Rattle.za_min.specs.Minimal.{IsNumberedBy}
use Rattle.za_expression.specs.declared.sign.Sign.{Sign}
use Rattle.za_expression.specs.Forms.{Form, is_meant}
use Rattle.za_expression.specs.Grammar.{IsForm}
use Rattle.za_expression.specs.Values.{HaveSameValue, HasMoreValues}
use Rattle.za_form.specs.declared.fault.Wide.{Wide}
use Rattle.za_form.specs.declared.fault.Wide.TheVariants.{States, OutOfMemory}
use Rattle.za_form.specs.Expressions.{letter_at}

-- the states of the DFA are the position values of words over the alphabet, numbered by their shortlex-least
-- words, and it accepts exactly the words of the form's meaning
pub record IsValueDfa (alphabet : DistributedAlphabet) (signs : List Sign) (d : CompleteDfa) : Type 0 where
  pub form : Form
  pub is : IsForm 1 signs form
  pub complete : IsComplete d
  pub same : d.alphabet ≡ alphabet
  pub values : (u v : List ℕ) → IsWord (length alphabet.letters) u → IsWord (length alphabet.letters) v →
      ((walk (step_of d) d.start u ≡ walk (step_of d) d.start v) ↔ HaveSameValue (letter_at signs) form u v)
  pub access : List (List ℕ)
  pub numbered : IsNumberedBy (automaton_of d) access
  pub language : (w : List ℕ) → IsWord (length alphabet.letters) w →
      is_accepted (automaton_of d) w ≡ is_meant (letter_at signs) form w
  pub few : d.states ≤ most_states
  pub no_more : ¬ HasMoreValues (letter_at signs) form (length alphabet.letters) most_states

-- what each answer without a DFA says, over so many letters: want of memory says nothing
abbrev pub IsWide : List Sign → ℕ → Wide → Type 0
IsWide signs letters States =
    (form : Form) × IsForm 1 signs form × HasMoreValues (letter_at signs) form letters most_states
IsWide signs letters OutOfMemory = Unit {0}
