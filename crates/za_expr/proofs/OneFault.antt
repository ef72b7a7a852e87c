-- A text has one fault, or none.
use Rattle.std.proofs.Common.{◌≡◌, ◌∙◌, ap, sym, subst, refl, ℕ, ◌≤◌, Bool, true, false, inl, inr, List, [], ◌∷◌, ◌++◌, length, map, arith, Option, Some, None}
use Rattle.std.specs.Prelude.{is_none, is_some}
use Rattle.std.specs.List.{list_all, list_any}
use Rattle.za_alpha.specs.Alphabet.{NamedLetter}
use Rattle.za_text.specs.Lines.{RawLine, lines_of, is_allowed}
use Rattle.za_text.specs.declared.kind.Kind.{Kind}
use Rattle.za_text.specs.declared.kind.Kind.TheVariants as kind
use Rattle.za_text.specs.declared.kind.TextFault.{TextFault}
use Rattle.za_expression.specs.declared.sign.Sign.{Sign}
use Rattle.za_expression.specs.Forms.{Form}
use Rattle.za_expression.specs.Grammar.{IsForm}
use Rattle.za_form.specs.declared.fault.FormFault.TheVariants as form_fault
use Rattle.za_form.specs.Expressions.{sign_of, is_unknown, AreSigns, IsExpressionOf, IsFormFault, IsNoForm}
use Rattle.za_lang.specs.declared.order.Place.{Place}
use Rattle.za_lang.specs.declared.order.Place.TheVariants.{AtHeader, AtProcesses, AtFirstLetter, AtLetters, AtStart, AtAccept, AtRows, AtScripts, AfterEnd}
use Rattle.za_lang.specs.Documents.{Said, words_in, next_fault}
use Rattle.za_expr.specs.Expressions.{HasTokensFault, HasExpressionFault, IsNarrow, IsTooWide}
use Rattle.za_expr.specs.Documents.{is_expr, said_with, version_at, HasFaultAfterLetters, HasFaultAt, HasWordsFault, HasBytesFault, HasLineFault, HasFirstFault}
use Rattle.za_expr.specs.Laws.{TextsHaveOneFault}

-- ---- the tokens of an expression

-- each token is a sign
signs_known : (letters : List NamedLetter) (tokens : List (List ℕ)) (signs : List Sign) → AreSigns letters tokens signs →
    list_any (is_unknown letters) tokens ≡ false
signs_known letters [] signs h = refl
signs_known letters (t ∷ ts) [] h = absurd (cc)
signs_known letters (t ∷ ts) (x ∷ xs) h =
    let first : sign_of letters t ≡ Some x = (cc) in
    let rest : AreSigns letters ts xs = (cc) in
    let known : is_unknown letters t ≡ false = ap is_none first in
    rw known (signs_known letters ts xs rest)

same_somes : (xs ys : List Sign) → map (λ (sign : Sign). Some sign) xs ≡ map (λ (sign : Sign). Some sign) ys → xs ≡ ys
same_somes [] [] h = refl
same_somes [] (y ∷ ys) h = absurd (cc)
same_somes (x ∷ xs) [] h = absurd (cc)
same_somes (x ∷ xs) (y ∷ ys) h =
    let first : x ≡ y = (cc) in
    let rest : map (λ (sign : Sign). Some sign) xs ≡ map (λ (sign : Sign). Some sign) ys = (cc) in
    ap (λ z. z ∷ xs) first ∙ ap (λ zs. y ∷ zs) (same_somes xs ys rest)

module _ (letters : List NamedLetter) (tokens : List (List ℕ)) where
  -- tokens are one list of signs
  pub one_signs : (xs ys : List Sign) → AreSigns letters tokens xs → AreSigns letters tokens ys → xs ≡ ys
  one_signs xs ys h k = same_somes xs ys (sym h ∙ k)

  no_letter_or_signs : (signs : List Sign) → IsFormFault letters tokens form_fault.NoSuchLetter → AreSigns letters tokens signs → ⊥
  no_letter_or_signs signs h each = let e : true ≡ false = sym h.1 ∙ signs_known letters tokens signs each in cc

  no_form_or_form : (signs : List Sign) → IsNoForm letters tokens → IsExpressionOf letters tokens signs → ⊥
  no_form_or_form signs h e = h.none e.form.0 (subst (λ xs. IsForm 1 xs e.form.0) (one_signs signs h.signs e.each h.each) e.form.1)

  wide_or_narrow : IsTooWide letters tokens → IsNarrow letters tokens → ⊥
  wide_or_narrow w n =
      let same = one_signs w.signs n.signs w.expression.each n.expression.each in
      let P : List Sign → Type 0 = λ xs. (f : Form) → IsForm 1 xs f →
      ¬ Rattle.za_expression.specs.Values.HasMoreValues (Rattle.za_form.specs.Expressions.letter_at xs) f
      (length letters) Rattle.za_dfa.specs.Limits.most_states in
      let few = subst P (sym same) n.few in
      few w.many.0 w.many.1 w.many.2

  -- how far the tests are passed
  abbrev Full : Type 0
  Full = IsFormFault letters tokens form_fault.Full

  full_or_few : Full → length tokens ≤ 64 → ⊥
  full_or_few h few = omega arith

  one_tokens_fault : (a b : Option Kind) → HasTokensFault letters tokens a → HasTokensFault letters tokens b → a ≡ b
  one_tokens_fault None None h k = refl
  one_tokens_fault None (Some kind.ExprFull) h k = absurd (full_or_few k h.expression.few)
  one_tokens_fault None (Some kind.NoSuchLetter) h k = absurd (no_letter_or_signs h.signs k h.expression.each)
  one_tokens_fault None (Some kind.BadExpr) h k = absurd (no_form_or_form h.signs k.1 h.expression)
  one_tokens_fault None (Some kind.ExprStates) h k = absurd (wide_or_narrow k h)
  one_tokens_fault None (Some _) h k = absurd k
  one_tokens_fault (Some kind.ExprFull) None h k = absurd (full_or_few h k.expression.few)
  one_tokens_fault (Some kind.ExprFull) (Some kind.ExprFull) h k = refl
  one_tokens_fault (Some kind.ExprFull) (Some kind.NoSuchLetter) h k = absurd (full_or_few h k.0)
  one_tokens_fault (Some kind.ExprFull) (Some kind.BadExpr) h k = absurd (full_or_few h k.0)
  one_tokens_fault (Some kind.ExprFull) (Some kind.ExprStates) h k = absurd (full_or_few h k.expression.few)
  one_tokens_fault (Some kind.ExprFull) (Some _) h k = absurd k
  one_tokens_fault (Some kind.NoSuchLetter) None h k = absurd (no_letter_or_signs k.signs h k.expression.each)
  one_tokens_fault (Some kind.NoSuchLetter) (Some kind.ExprFull) h k = absurd (full_or_few k h.0)
  one_tokens_fault (Some kind.NoSuchLetter) (Some kind.NoSuchLetter) h k = refl
  one_tokens_fault (Some kind.NoSuchLetter) (Some kind.BadExpr) h k = absurd (no_letter_or_signs k.1.signs h k.1.each)
  one_tokens_fault (Some kind.NoSuchLetter) (Some kind.ExprStates) h k = absurd (no_letter_or_signs k.signs h k.expression.each)
  one_tokens_fault (Some kind.NoSuchLetter) (Some _) h k = absurd k
  one_tokens_fault (Some kind.BadExpr) None h k = absurd (no_form_or_form k.signs h.1 k.expression)
  one_tokens_fault (Some kind.BadExpr) (Some kind.ExprFull) h k = absurd (full_or_few k h.0)
  one_tokens_fault (Some kind.BadExpr) (Some kind.NoSuchLetter) h k = absurd (no_letter_or_signs h.1.signs k h.1.each)
  one_tokens_fault (Some kind.BadExpr) (Some kind.BadExpr) h k = refl
  one_tokens_fault (Some kind.BadExpr) (Some kind.ExprStates) h k = absurd (no_form_or_form k.signs h.1 k.expression)
  one_tokens_fault (Some kind.BadExpr) (Some _) h k = absurd k
  one_tokens_fault (Some kind.ExprStates) None h k = absurd (wide_or_narrow h k)
  one_tokens_fault (Some kind.ExprStates) (Some kind.ExprFull) h k = absurd (full_or_few k h.expression.few)
  one_tokens_fault (Some kind.ExprStates) (Some kind.NoSuchLetter) h k = absurd (no_letter_or_signs h.signs k h.expression.each)
  one_tokens_fault (Some kind.ExprStates) (Some kind.BadExpr) h k = absurd (no_form_or_form h.signs k.1 h.expression)
  one_tokens_fault (Some kind.ExprStates) (Some kind.ExprStates) h k = refl
  one_tokens_fault (Some kind.ExprStates) (Some _) h k = absurd k
  one_tokens_fault (Some _) b h k = absurd h

one_expression_fault : (letters : List NamedLetter) (tokens : List (List ℕ)) (a b : Option Kind) → HasExpressionFault letters tokens a →
    HasExpressionFault letters tokens b → a ≡ b
one_expression_fault letters [] a b h k = h ∙ sym k
one_expression_fault letters (t ∷ ts) a b h k = one_tokens_fault letters (t ∷ ts) a b h k

-- ---- a line

one_after_letters : (is : Bool) (s : Said) (word : List ℕ) (words : List (List ℕ)) (a b : Option Kind) → HasFaultAfterLetters is s word words a →
    HasFaultAfterLetters is s word words b → a ≡ b
one_after_letters true s word words a b h k = one_expression_fault s.letters words a b h k
one_after_letters false s word words a b h k = sym h ∙ k

one_at : (place : Place) (s : Said) (word : List ℕ) (words : List (List ℕ)) (a b : Option Kind) → HasFaultAt place s word words a →
    HasFaultAt place s word words b → a ≡ b
one_at AtHeader s word words a b h k = sym h ∙ k
one_at AtLetters s word words a b h k = one_after_letters (is_expr word) s word words a b h k
one_at AtProcesses s word words a b h k = sym h ∙ k
one_at AtFirstLetter s word words a b h k = sym h ∙ k
one_at AtStart s word words a b h k = sym h ∙ k
one_at AtAccept s word words a b h k = sym h ∙ k
one_at AtRows s word words a b h k = sym h ∙ k
one_at AtScripts s word words a b h k = sym h ∙ k
one_at AfterEnd s word words a b h k = sym h ∙ k

one_words : (s : Said) (words : List (List ℕ)) (a b : Option Kind) → HasWordsFault s words a → HasWordsFault s words b → a ≡ b
one_words s [] a b h k = sym h ∙ k
one_words s (word ∷ words) a b h k = one_at s.place s word words a b h k

one_bytes : (whole allowed : Bool) (s : Said) (line : RawLine) (a b : Option Kind) → HasBytesFault whole allowed s line a →
    HasBytesFault whole allowed s line b → a ≡ b
one_bytes false allowed s line a b h k = sym h ∙ k
one_bytes true false s line a b h k = sym h ∙ k
one_bytes true true s line a b h k = one_words s (words_in (version_at s.place) line) a b h k

one_line : (s : Said) (line : RawLine) (a b : Option Kind) → HasLineFault s line a → HasLineFault s line b → a ≡ b
one_line s line a b h k = one_bytes line.whole (list_all is_allowed line.text) s line a b h k

-- ---- all lines

one_first : (before lines : List RawLine) (a b : Option TextFault) → HasFirstFault before lines a → HasFirstFault before lines b → a ≡ b
one_first before [] a b h k = h ∙ sym k
one_first before (line ∷ lines) a b (inl h) (inl k) =
    let fault_of : Option Kind → Option TextFault = λ o. Rattle.std.specs.Option.option_map (next_fault (length before)) o in
    h.here ∙ ap fault_of (one_line (said_with before) line (Some h.kind) (Some k.kind) h.wrong k.wrong) ∙ sym k.here
one_first before (line ∷ lines) a b (inl h) (inr k) =
    absurd (let e : true ≡ false = ap is_some (one_line (said_with before) line (Some h.kind) None h.wrong k.0) in cc)
one_first before (line ∷ lines) a b (inr h) (inl k) =
    absurd (let e : true ≡ false = ap is_some (one_line (said_with before) line (Some k.kind) None k.wrong h.0) in cc)
one_first before (line ∷ lines) a b (inr h) (inr k) = one_first (before ++ line ∷ []) lines a b h.1 k.1

pub texts_have_one_fault : TextsHaveOneFault
texts_have_one_fault bytes a b h k = one_first [] (lines_of bytes) a b h k
