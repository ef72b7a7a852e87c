-- Texts of expressions.
use Rattle.std.specs.Prelude.{◌≡◌, ℕ, ◌≤◌, ◌<◌, Bool, List, ◌∷◌, length, map, codes, slice_index_or}
use Rattle.std.specs.Prelude.{Option, Some, None, is_none, option_map, IsTrue, if◌then◌else◌}
use Rattle.std.specs.List.{list_any}
use Rattle.std.specs.Option.{option_or}
use Rattle.std.specs.Str.{bytes_eq}
use Rattle.za_alpha.specs.Limits.{most_letters}
use Rattle.za_alpha.specs.Alphabet.{NamedLetter, place_of}
use Rattle.za_expression.specs.declared.sign.Sign.{Sign}
use Rattle.za_expression.specs.declared.sign.Sign.TheVariants.{Name, Empty, Open, Close, Begin, End}
use Rattle.za_expression.specs.declared.sign.Sign.TheVariants.{Bar, Times, Ampersand, Bang}
use Rattle.za_expression.specs.Limits.{most_signs}
use Rattle.za_expression.specs.Forms.{Form}
use Rattle.za_expression.specs.Grammar.{IsForm}
use Rattle.za_form.specs.declared.fault.FormFault.{FormFault}
use Rattle.za_form.specs.declared.fault.FormFault.TheVariants.{Full, NoSuchLetter, NotAForm, OutOfMemory}

-- the symbol that a token is
abbrev pub symbol_of : List ℕ → Option Sign
symbol_of token =
    if bytes_eq token (codes "1") then Some Empty
    else (if bytes_eq token (codes "(") then Some Open
    else (if bytes_eq token (codes ")") then Some Close
    else (if bytes_eq token (codes "{") then Some Begin
    else (if bytes_eq token (codes "}") then Some End
    else (if bytes_eq token (codes "|") then Some Bar
    else (if bytes_eq token (codes "*") then Some Times
    else (if bytes_eq token (codes "&") then Some Ampersand
    else (if bytes_eq token (codes "!") then Some Bang else None))))))))

-- the sign that a token is: a symbol, or a letter's name
abbrev pub sign_of : List NamedLetter → List ℕ → Option Sign
sign_of letters token = option_or (symbol_of token) (option_map (λ a. Name a) (place_of letters token))

-- whether a token is neither
abbrev pub is_unknown : List NamedLetter → List ℕ → Bool
is_unknown letters token = is_none (sign_of letters token)

-- the tokens are the signs
abbrev pub AreSigns : List NamedLetter → List (List ℕ) → List Sign → Type 0
AreSigns letters tokens signs = map (sign_of letters) tokens ≡ map (λ (sign : Sign). Some sign) signs

-- what holds of the signs of each expression: they are a form
pub record IsExpression (signs : List Sign) : Type 0 where
  pub few : length signs ≤ most_signs
  pub form : (f : Form) × IsForm 1 signs f

-- the letter that a sign names, and a number that is no letter's where it is a symbol
abbrev pub named_letter : Sign → ℕ
named_letter (Name a) = a
named_letter Empty = most_letters
named_letter Open = most_letters
named_letter Close = most_letters
named_letter Begin = most_letters
named_letter End = most_letters
named_letter Bar = most_letters
named_letter Times = most_letters
named_letter Ampersand = most_letters
named_letter Bang = most_letters

-- the letter at a place, counted from 1
abbrev pub letter_at : List Sign → ℕ → ℕ
letter_at signs p = named_letter (slice_index_or (Empty ∷ signs) p Empty)

-- the tokens are the signs over these letters, and these are a form
pub record IsExpressionOf (letters : List NamedLetter) (tokens : List (List ℕ)) (signs : List Sign) : Type 0 where
  pub few : length tokens ≤ most_signs
  pub each : AreSigns letters tokens signs
  pub form : (f : Form) × IsForm 1 signs f

-- the tokens are signs that are no form
pub record IsNoForm (letters : List NamedLetter) (tokens : List (List ℕ)) : Type 0 where
  pub signs : List Sign
  pub each : AreSigns letters tokens signs
  pub none : (f : Form) → ¬ IsForm 1 signs f

-- what each fault of tokens over these letters says: want of memory says nothing
abbrev pub IsFormFault : List NamedLetter → List (List ℕ) → FormFault → Type 0
IsFormFault letters tokens Full = most_signs < length tokens
IsFormFault letters tokens NoSuchLetter =
    (length tokens ≤ most_signs) × IsTrue (list_any (is_unknown letters) tokens)
IsFormFault letters tokens NotAForm = (length tokens ≤ most_signs) × IsNoForm letters tokens
IsFormFault letters tokens OutOfMemory = Unit {0}
