use Rattle.std.proofs.Common.{rules, ◌≡◌, ◌≤◌, ℕ, Bool, false, nat_lt, Some, None, length, ap, sym, ◌∙◌, arith}
use Rattle.std.proofs.lemmas.Bool.Decides.{nat_tests}
use Rattle.std.proofs.lemmas.List.{length-map}
use Rattle.za_text.specs.Words.{words_of}
use Rattle.za_expression.specs.declared.sign.Sign.{Sign}
use Rattle.za_expression.specs.Limits.{most_signs}
use Rattle.za_expression.specs.Forms.{Form}
use Rattle.za_expression.specs.Grammar.{IsForm}
use Rattle.za_expression.specs.Private.Machine.{parsed}
use Rattle.za_expression.proofs.Complete.{complete}
use Rattle.za_expression.proofs.Sound.{sound}
use Rattle.za_form.specs.Expressions.{sign_of, AreSigns}
use Rattle.za_form.specs.Private.Trees.{form, form_option}
use Rattle.za_form.proofs.form.Form.parse.Goals as goal
use Rattle.za_form.proofs.form.Form.parse.Goals.{In-Some-2}

-- what the test of the count says
few_words : (b : Bool) (n : ℕ) → b ≡ nat_lt most_signs n → b ≡ false → n ≤ most_signs
few_words b n is h = grind (arith, nat_tests)

is_form : (c : In-Some-2) → IsForm 1 c.in-Some.signs.items (form c.in-Some-2.tree)
is_form c =
    let e : form_option c.in_ok-tree.field-0 ≡ parsed c.as_slice.result.now = c.in_ok-tree.ensures in
    let p : parsed c.in-Some.signs.items ≡ Some (form c.in-Some-2.tree) = ap parsed (sym c.as_slice.ensures.value) ∙ sym e ∙ ap form_option c.in-Some-2.is in
    sound c.in-Some.signs.items (form c.in-Some-2.tree) p

are_signs : (c : In-Some-2) → AreSigns c.args.alphabet.now.letters (words_of c.args.text.now) c.in-Some.signs.items
are_signs c = search rules

pub invariant_of-result : goal.invariant_of-result
invariant_of-result c =
    let few = few_words c.is_full.result (length (words_of c.args.text.now)) c.is_full.ensures c.if-is_full.false in
    let same = ap length (are_signs c) in
    let left = length-map (words_of c.args.text.now) (sign_of c.args.alphabet.now.letters) in
    let right = length-map c.in-Some.signs.items (λ (sign : Sign). Some sign) in
    record { few = omega arith; is = is_form c }

pub returns-in-Some-2 : goal.returns-in-Some-2
returns-in-Some-2 c = record {
  few = few_words c.is_full.result (length (words_of c.args.text.now)) c.is_full.ensures c.if-is_full.false;
  each = are_signs c;
  form = (form c.in-Some-2.tree, is_form c);
}

pub returns-in-None : goal.returns-in-None
returns-in-None c =
    let few = few_words c.is_full.result (length (words_of c.args.text.now)) c.is_full.ensures c.if-is_full.false in
    let signs = c.in-Some.signs.items in
    let each : AreSigns c.args.alphabet.now.letters (words_of c.args.text.now) signs = search rules in
    let e : form_option c.in_ok-tree.field-0 ≡ parsed c.as_slice.result.now = c.in_ok-tree.ensures in
    let n : parsed signs ≡ None = ap parsed (sym c.as_slice.ensures.value) ∙ sym e ∙ ap form_option c.in-None.is in (
      few,
      record {
        signs = signs;
        each = each;
        none = λ (f : Form) h. let y : None ≡ Some f = sym n ∙ complete signs f h in (cc);
      },
    )
