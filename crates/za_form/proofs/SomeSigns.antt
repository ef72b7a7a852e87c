-- Tokens are an expression, or have a fault.
use Rattle.std.proofs.Common.{◌≡◌, ℕ, ◌≤◌, Bool, true, false, ◌||◌, inl, inr, List, [], ◌∷◌, length, map, refl, sym, ap, ◌∙◌, Option, Some, None}
use Rattle.std.specs.Prelude.{is_none}
use Rattle.std.specs.List.{list_any}
use Rattle.std.proofs.lemmas.Bool.{cases_Bool, cases_lt}
use Rattle.za_alpha.specs.Alphabet.{NamedLetter}
use Rattle.za_expression.specs.declared.sign.Sign.{Sign}
use Rattle.za_expression.specs.Limits.{most_signs}
use Rattle.za_expression.specs.Forms.{Form}
use Rattle.za_expression.specs.Private.Machine.{parsed}
use Rattle.za_expression.proofs.Complete.{complete}
use Rattle.za_expression.proofs.Sound.{sound}
use Rattle.za_form.specs.Expressions.{sign_of, is_unknown, AreSigns, IsExpressionOf, IsFormFault}
use Rattle.za_form.specs.declared.fault.FormFault.TheVariants.{Full, NoSuchLetter, NotAForm}

neither : (x y : Bool) → (x || y) ≡ false → (x ≡ false) × (y ≡ false)
neither true y h = absurd (cc)
neither false y h = (refl, h)

known_sign : (o : Option Sign) → is_none o ≡ false → (sign : Sign) × (o ≡ Some sign)
known_sign None h = absurd (cc)
known_sign (Some sign) h = (sign, refl)

-- tokens that are all known are signs
known_signs : (letters : List NamedLetter) (tokens : List (List ℕ)) → list_any (is_unknown letters) tokens ≡ false → (signs : List Sign)
    × AreSigns letters tokens signs
known_signs letters [] h = ([], refl)
known_signs letters (token ∷ tokens) h =
    let parts = neither (is_unknown letters token) (list_any (is_unknown letters) tokens) h in
    let first = known_sign (sign_of letters token) parts.0 in
    let rest = known_signs letters tokens parts.1 in
    (first.0 ∷ rest.0, ap (λ o. o ∷ map (sign_of letters) tokens) first.1 ∙ ap (λ os. Some first.0 ∷ os) rest.1)

-- what tokens over these letters are
pub data Judged (letters : List NamedLetter) (tokens : List (List ℕ)) : Type 0 where
  TooMany : IsFormFault letters tokens Full → Judged letters tokens
  Unknown : IsFormFault letters tokens NoSuchLetter → Judged letters tokens
  Formless : IsFormFault letters tokens NotAForm → Judged letters tokens
  Expression : (signs : List Sign) → IsExpressionOf letters tokens signs → Judged letters tokens

signs_judged : (letters : List NamedLetter) (tokens : List (List ℕ)) (signs : List Sign) → length tokens ≤ most_signs → AreSigns letters tokens signs →
    (o : Option Form) → parsed signs ≡ o → Judged letters tokens
signs_judged letters tokens signs few each None e =
    Formless (few, record { signs = signs; each = each; none = λ f h. let no : None ≡ Some f = sym e ∙ complete signs f h in cc })
signs_judged letters tokens signs few each (Some f) e =
    Expression signs (record { few = few; each = each; form = (f, sound signs f e) })

pub tokens_judged : (letters : List NamedLetter) (tokens : List (List ℕ)) → Judged letters tokens
tokens_judged letters tokens = elim (cases_lt most_signs (length tokens)) [
  | inl full ↦ TooMany full
  | inr few ↦ elim (cases_Bool (list_any (is_unknown letters) tokens)) [
    | inl unknown ↦ Unknown (few, unknown)
    | inr known ↦ let signs = known_signs letters tokens known in signs_judged letters tokens signs.0 few signs.1 (parsed signs.0) refl
  ]
]
