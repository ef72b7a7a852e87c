-- What the grammar and the following occurrences give.
use Rattle.std.specs.Prelude.{◌≡◌, ℕ, ◌↔◌, List, ◌∷◌, IsTrue, length}
use Rattle.za_alpha.specs.Words.{has}
use Rattle.za_expression.specs.declared.sign.Sign.{Sign}
use Rattle.za_expression.specs.Forms.{Form, is_meant}
use Rattle.za_expression.specs.Grammar.{IsForm}
use Rattle.za_expression.specs.Values.{HasIn}
use Rattle.za_expression.specs.Following.{goes, accepts, following_value}

-- signs are one form at most
abbrev pub SignsAreOneForm : Type 0
SignsAreOneForm = (signs : List Sign) (f g : Form) → IsForm 1 signs f → IsForm 1 signs g → f ≡ g

-- the value by following occurrences of a word that isn't empty is its position value
abbrev pub ValuesByFollowing : Type 0
ValuesByFollowing =
    (letter : ℕ → ℕ) (signs : List Sign) (f : Form) (a : ℕ) (u : List ℕ) (p : ℕ) → IsForm 1 signs f →
    (IsTrue (has (following_value (goes f) letter (length signs) (a ∷ u)) p) ↔ HasIn letter f (a ∷ u) p)

-- a word is in the form's meaning exactly if the form accepts its value
abbrev pub MeaningByValues : Type 0
MeaningByValues =
    (letter : ℕ → ℕ) (signs : List Sign) (f : Form) (u : List ℕ) → IsForm 1 signs f →
    accepts f (following_value (goes f) letter (length signs) u) ≡ is_meant letter f u
