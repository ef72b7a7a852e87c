-- Documents with an expression in place of a table. Their header is `zla expr`, and one `expr` line stands where
-- version 2 has the lines from `states` to the last `row`. All else is as in version 2.
use Rattle.std.specs.Prelude.{◌≡◌, ℕ, ◌⊎◌, ◌++◌, ◌&&◌, Bool, true, false}
use Rattle.std.specs.Prelude.{List, [], ◌∷◌, length, codes}
use Rattle.std.specs.Prelude.{Option, Some, None, if◌then◌else◌, fold}
use Rattle.std.specs.List.{list_all, flat_map}
use Rattle.std.specs.Option.{option_or}
use Rattle.std.specs.Str.{bytes_eq}
use Rattle.za_text.specs.Lines.{RawLine, lines_of, is_allowed}
use Rattle.za_text.specs.declared.kind.Kind.{Kind}
use Rattle.za_text.specs.declared.kind.Kind.TheVariants.{Cut, BadByte, OutOfOrder, ExprHeader}
use Rattle.za_text.specs.declared.kind.TextFault.{TextFault}
use Rattle.za_lang.specs.declared.order.Head.{Head}
use Rattle.za_lang.specs.declared.order.Head.TheVariants.{States}
use Rattle.za_lang.specs.declared.order.Place.{Place}
use Rattle.za_lang.specs.declared.order.Place.TheVariants.{AtHeader, AtLetters, AtScripts}
use Rattle.za_lang.specs.declared.version.Version.{Version}
use Rattle.za_lang.specs.declared.version.Version.TheVariants.{One, Two}
use Rattle.za_lang.specs.Order.{head_of, next_place}
use Rattle.za_lang.specs.Documents.{Said, said, words_in, words_fault, next_fault, end_fault}
use Rattle.za_expr.specs.Expressions.{HasExpressionFault}

-- What lines say.

-- whether a line with this first word is an `expr` line
abbrev pub is_expr : List ℕ → Bool
is_expr word = bytes_eq word (codes "expr")

-- the place after a line
abbrev pub next_place_with : Place → List (List ℕ) → Place
next_place_with place [] = place
next_place_with place (word ∷ words) = if is_expr word then AtScripts else next_place place (head_of word)

-- the place that lines lead to
abbrev pub place_with : List RawLine → Place
place_with lines = fold (λ place line. next_place_with place (words_in Two line)) AtHeader lines

-- all that lines say, but for the expression
abbrev pub said_with : List RawLine → Said
said_with lines = record (said Two lines) { place = place_with lines }

-- the tokens of the expression that a line says
abbrev pub tokens_by : List (List ℕ) → List (List ℕ)
tokens_by [] = []
tokens_by (word ∷ words) = if is_expr word then words else []

abbrev pub tokens_in : List RawLine → List (List ℕ)
tokens_in lines = flat_map (λ line. tokens_by (words_in Two line)) lines

-- The tests of a line, after lines that say this: there is no fault, or that of the first test that fails.

-- comments stand after the header
abbrev pub version_at : Place → Version
version_at AtHeader = One
version_at _ = Two

abbrev pub header_fault : List (List ℕ) → Option Kind
header_fault (zla ∷ word ∷ []) = if bytes_eq zla (codes "zla") && is_expr word then None else Some ExprHeader
header_fault _ = Some ExprHeader

-- no table is given
abbrev pub table_fault : Head → Option Kind
table_fault States = Some OutOfOrder
table_fault _ = None

-- after the letters, by whether it is an `expr` line
abbrev pub HasFaultAfterLetters : Bool → Said → List ℕ → List (List ℕ) → Option Kind → Type 0
HasFaultAfterLetters true s word words fault = HasExpressionFault s.letters words fault
HasFaultAfterLetters false s word words fault =
    option_or (table_fault (head_of word)) (words_fault s (word ∷ words)) ≡ fault

-- by the place
abbrev pub HasFaultAt : Place → Said → List ℕ → List (List ℕ) → Option Kind → Type 0
HasFaultAt AtHeader s word words fault = header_fault (word ∷ words) ≡ fault
HasFaultAt AtLetters s word words fault = HasFaultAfterLetters (is_expr word) s word words fault
HasFaultAt _ s word words fault = words_fault s (word ∷ words) ≡ fault

abbrev pub HasWordsFault : Said → List (List ℕ) → Option Kind → Type 0
HasWordsFault s [] fault = None ≡ fault
HasWordsFault s (word ∷ words) fault = HasFaultAt s.place s word words fault

-- by whether the line is whole, and whether its bytes are allowed
abbrev pub HasBytesFault : Bool → Bool → Said → RawLine → Option Kind → Type 0
HasBytesFault false allowed s line fault = Some Cut ≡ fault
HasBytesFault true false s line fault = Some BadByte ≡ fault
HasBytesFault true true s line fault = HasWordsFault s (words_in (version_at s.place) line) fault

abbrev pub HasLineFault : Said → RawLine → Option Kind → Type 0
HasLineFault s line fault = HasBytesFault line.whole (list_all is_allowed line.text) s line fault

-- The refusal.

-- a line is wrong so, and the first to be
pub record IsWrongLine (before : List RawLine) (line : RawLine) (fault : Option TextFault) : Type 0 where
  pub kind : Kind
  pub wrong : HasLineFault (said_with before) line (Some kind)
  pub here : fault ≡ Some (next_fault (length before) kind)

-- the fault of the lines that come after others: that of the first wrong one, or the missing end, or none
abbrev pub HasFirstFault : List RawLine → List RawLine → Option TextFault → Type 0
HasFirstFault before [] fault = fault ≡ end_fault (place_with before) (length before)
HasFirstFault before (line ∷ lines) fault =
    IsWrongLine before line fault
    ⊎ (HasLineFault (said_with before) line None × HasFirstFault (before ++ line ∷ []) lines fault)

-- the fault of a text, and none where it is a document
abbrev pub HasFault : List ℕ → Option TextFault → Type 0
HasFault bytes fault = HasFirstFault [] (lines_of bytes) fault
