-- A document has a fault, or is built: each test of a line is decided.
use Rattle.std.proofs.Common.{refl, subst, ℕ, Bool, true, false, ◌⊎◌, inl, inr, List, [], ◌∷◌, ◌++◌, length, Option, Some, None}
use Rattle.std.specs.List.{list_all}
use Rattle.std.specs.Option.{option_or}
use Rattle.za_alpha.specs.Alphabet.{NamedLetter}
use Rattle.za_text.specs.Lines.{RawLine, lines_of, is_allowed}
use Rattle.za_text.specs.declared.kind.Kind.{Kind}
use Rattle.za_text.specs.declared.kind.Kind.TheVariants as kind
use Rattle.za_text.specs.declared.kind.TextFault.{TextFault}
use Rattle.za_dfa.specs.Limits.{most_states}
use Rattle.za_expression.specs.declared.sign.Sign.{Sign}
use Rattle.za_expression.specs.Forms.{Form}
use Rattle.za_expression.specs.Values.{HasMoreValues}
use Rattle.za_expression.proofs.Whole.{signs_are_one_form}
use Rattle.za_form.specs.Expressions.{letter_at, IsExpressionOf}
use Rattle.za_form.proofs.SomeSigns.{Judged, TooMany, Unknown, Formless, Expression, tokens_judged}
use Rattle.za_form.proofs.SomeTable.{more_or_few}
use Rattle.za_lang.specs.declared.order.Place.{Place}
use Rattle.za_lang.specs.declared.order.Place.TheVariants.{AtHeader, AtProcesses, AtFirstLetter, AtLetters, AtStart, AtAccept, AtRows, AtScripts, AfterEnd}
use Rattle.za_lang.specs.Order.{head_of}
use Rattle.za_lang.specs.Documents.{Said, words_in, words_fault, next_fault, end_fault}
use Rattle.za_expr.specs.Expressions.{HasTokensFault, HasExpressionFault}
use Rattle.za_expr.specs.Documents.{is_expr, place_with, said_with, version_at, header_fault, table_fault}
use Rattle.za_expr.specs.Documents.{HasFaultAfterLetters, HasFaultAt, HasWordsFault, HasBytesFault, HasLineFault, HasFirstFault, HasFault}
use Rattle.za_expr.specs.Built.{IsBuilt}
use Rattle.za_expr.specs.Laws.{BuiltOrRefused}
use Rattle.za_expr.proofs.Jobs.{some_text}

-- some fault has the tests, or none
abbrev Has : {F : Type 0} → (Option F → Type 0) → Type 0
Has {F = F} has = (fault : Option F) × has fault

expression_judged : (letters : List NamedLetter) (tokens : List (List ℕ)) (signs : List Sign) → IsExpressionOf letters tokens signs →
    Has (HasTokensFault letters tokens)
expression_judged letters tokens signs h =
    let f : Form = h.form.0 in
    elim (more_or_few signs (length letters) f h.form.1) [
      | inl many ↦ (Some kind.ExprStates, record { signs = signs; expression = h; many = (f, h.form.1, many) })
      | inr few ↦ (
        None,
        record {
          signs = signs;
          expression = h;
          few = λ g is more.
              few (subst (λ x. HasMoreValues (letter_at signs) x (length letters) most_states) (signs_are_one_form signs g f is h.form.1) more);
        },
      )
    ]

by_judgement : (letters : List NamedLetter) (tokens : List (List ℕ)) → Judged letters tokens → Has (HasTokensFault letters tokens)
by_judgement letters tokens (TooMany h) = (Some kind.ExprFull, h)
by_judgement letters tokens (Unknown h) = (Some kind.NoSuchLetter, h)
by_judgement letters tokens (Formless h) = (Some kind.BadExpr, h)
by_judgement letters tokens (Expression signs h) = expression_judged letters tokens signs h

words_judged : (letters : List NamedLetter) (tokens : List (List ℕ)) → Has (HasExpressionFault letters tokens)
words_judged letters [] = (Some kind.WordCount, refl)
words_judged letters (token ∷ tokens) = by_judgement letters (token ∷ tokens) (tokens_judged letters (token ∷ tokens))

-- ---- a line

after_letters_judged : (is : Bool) (s : Said) (word : List ℕ) (words : List (List ℕ)) → Has (HasFaultAfterLetters is s word words)
after_letters_judged true s word words = words_judged s.letters words
after_letters_judged false s word words = (option_or (table_fault (head_of word)) (words_fault s (word ∷ words)), refl)

place_judged : (place : Place) (s : Said) (word : List ℕ) (words : List (List ℕ)) → Has (HasFaultAt place s word words)
place_judged AtHeader s word words = (header_fault (word ∷ words), refl)
place_judged AtLetters s word words = after_letters_judged (is_expr word) s word words
place_judged AtProcesses s word words = (words_fault s (word ∷ words), refl)
place_judged AtFirstLetter s word words = (words_fault s (word ∷ words), refl)
place_judged AtStart s word words = (words_fault s (word ∷ words), refl)
place_judged AtAccept s word words = (words_fault s (word ∷ words), refl)
place_judged AtRows s word words = (words_fault s (word ∷ words), refl)
place_judged AtScripts s word words = (words_fault s (word ∷ words), refl)
place_judged AfterEnd s word words = (words_fault s (word ∷ words), refl)

line_words_judged : (s : Said) (words : List (List ℕ)) → Has (HasWordsFault s words)
line_words_judged s [] = (None, refl)
line_words_judged s (word ∷ words) = place_judged s.place s word words

bytes_judged : (whole allowed : Bool) (s : Said) (line : RawLine) → Has (HasBytesFault whole allowed s line)
bytes_judged false allowed s line = (Some kind.Cut, refl)
bytes_judged true false s line = (Some kind.BadByte, refl)
bytes_judged true true s line = line_words_judged s (words_in (version_at s.place) line)

line_judged : (s : Said) (line : RawLine) → Has (HasLineFault s line)
line_judged s line = bytes_judged line.whole (list_all is_allowed line.text) s line

-- ---- all lines

by_line : (before : List RawLine) (line : RawLine) (lines : List RawLine) (fault : Option Kind) → HasLineFault (said_with before) line fault →
    Has (HasFirstFault (before ++ line ∷ []) lines) → Has (HasFirstFault before (line ∷ lines))
by_line before line lines (Some kind) h rest = (Some (next_fault (length before) kind), inl (record { kind = kind; wrong = h; here = refl }))
by_line before line lines None h rest = (rest.0, inr (h, rest.1))

lines_judged : (before lines : List RawLine) → Has (HasFirstFault before lines)
lines_judged before [] = (end_fault (place_with before) (length before), refl)
lines_judged before (line ∷ lines) =
    let here = line_judged (said_with before) line in
    by_line before line lines here.0 here.1 (lines_judged (before ++ line ∷ []) lines)

by_fault : (bytes : List ℕ) (fault : Option TextFault) → HasFault bytes fault →
    ((fault : TextFault) × HasFault bytes (Some fault)) ⊎ ((text : List ℕ) × IsBuilt bytes text)
by_fault bytes (Some fault) h = inl (fault, h)
by_fault bytes None h = inr (some_text bytes h)

pub built_or_refused : BuiltOrRefused
built_or_refused bytes = let h = lines_judged [] (lines_of bytes) in by_fault bytes h.0 h.1
