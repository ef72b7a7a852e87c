-- The tests of the words of an `expr` line. There is no fault, or that of the first test that fails.
use Rattle.std.specs.Prelude.{◌≡◌, ℕ, List, [], ◌∷◌, length, Option, Some, None}
use Rattle.za_text.specs.declared.kind.Kind.{Kind}
use Rattle.za_text.specs.declared.kind.Kind.TheVariants as kind
use Rattle.za_alpha.specs.Alphabet.{NamedLetter}
use Rattle.za_dfa.specs.Limits.{most_states}
use Rattle.za_expression.specs.declared.sign.Sign.{Sign}
use Rattle.za_expression.specs.Forms.{Form}
use Rattle.za_expression.specs.Grammar.{IsForm}
use Rattle.za_expression.specs.Values.{HasMoreValues}
use Rattle.za_form.specs.declared.fault.FormFault.TheVariants as form_fault
use Rattle.za_form.specs.declared.fault.Wide.TheVariants as wide
use Rattle.za_form.specs.Expressions.{letter_at, IsExpressionOf, IsFormFault}
use Rattle.za_form.specs.Automata.{IsWide}

-- the tokens are an expression whose words have few enough values
pub record IsNarrow (letters : List NamedLetter) (tokens : List (List ℕ)) : Type 0 where
  pub signs : List Sign
  pub expression : IsExpressionOf letters tokens signs
  pub few : (f : Form) → IsForm 1 signs f → ¬ HasMoreValues (letter_at signs) f (length letters) most_states

-- or have too many
pub record IsTooWide (letters : List NamedLetter) (tokens : List (List ℕ)) : Type 0 where
  pub signs : List Sign
  pub expression : IsExpressionOf letters tokens signs
  pub many : IsWide signs (length letters) wide.States

-- some tokens, over these letters
abbrev pub HasTokensFault : List NamedLetter → List (List ℕ) → Option Kind → Type 0
HasTokensFault letters tokens None = IsNarrow letters tokens
HasTokensFault letters tokens (Some kind.ExprFull) = IsFormFault letters tokens form_fault.Full
HasTokensFault letters tokens (Some kind.NoSuchLetter) = IsFormFault letters tokens form_fault.NoSuchLetter
HasTokensFault letters tokens (Some kind.BadExpr) = IsFormFault letters tokens form_fault.NotAForm
HasTokensFault letters tokens (Some kind.ExprStates) = IsTooWide letters tokens
HasTokensFault letters tokens (Some _) = ⊥

-- the words after `expr`, over the letters of the lines before
abbrev pub HasExpressionFault : List NamedLetter → List (List ℕ) → Option Kind → Type 0
HasExpressionFault letters [] fault = fault ≡ Some kind.WordCount
HasExpressionFault letters (token ∷ tokens) fault = HasTokensFault letters (token ∷ tokens) fault
