-- The laws on forms that signs are.
use Rattle.std.proofs.Common.{◌≡◌, ◌+◌, List, ◌∷◌, Some, length, sym, ◌∙◌}
use Rattle.za_expression.specs.declared.sign.Sign.{Sign}
use Rattle.za_expression.specs.Forms.{Form}
use Rattle.za_expression.specs.Grammar.{Whole, IsForm}
use Rattle.za_expression.specs.Laws.{SignsAreOneForm, ValuesByFollowing, MeaningByValues}
use Rattle.za_expression.specs.Private.Ordered.{Spans}
use Rattle.za_expression.proofs.Complete.{complete}
use Rattle.za_expression.proofs.FormValues.{value_to, value_from, accepts_meets}
use Rattle.za_expression.proofs.Placed.{derives_span}

pub signs_are_one_form : SignsAreOneForm
signs_are_one_form signs f g p q =
    let e : Some f ≡ Some g = sym (complete signs f p) ∙ complete signs g q in
    (cc)

-- the occurrences of a form are places of its signs
pub form_spans : (signs : List Sign) (f : Form) → IsForm 1 signs f → Spans 1 f (1 + length signs)
form_spans signs f h = derives_span Whole 1 signs f h

pub values_by_following : ValuesByFollowing
values_by_following letter signs f a u p h =
    let spans = form_spans signs f h in
    (value_to letter f (length signs) a u p spans, value_from letter f (length signs) (a ∷ u) p spans)

pub meaning_by_values : MeaningByValues
meaning_by_values letter signs f u h = accepts_meets f letter (length signs) u (form_spans signs f h)
