-- A document without a fault says a job: what holds of what lines say, line by line.
use Rattle.std.proofs.Common.{◌≡◌, ◌∙◌, ap, sym, subst, refl, ℕ, Bool, true, false, inl, inr, List, [], ◌∷◌, ◌++◌, length, None}
use Rattle.std.proofs.Common.{append_assoc}
use Rattle.std.specs.Prelude.{codes}
use Rattle.std.specs.List.{list_all}
use Rattle.std.proofs.lemmas.List.{append-nil}
use Rattle.za_alpha.proofs.RowLemmas.{none_of_or}
use Rattle.za_text.specs.Lines.{RawLine, is_allowed}
use Rattle.za_text.specs.Words.{words_of}
use Rattle.za_lang.specs.declared.order.Head.{Head}
use Rattle.za_lang.specs.declared.order.Head.TheVariants as head
use Rattle.za_lang.specs.declared.order.Place.{Place}
use Rattle.za_lang.specs.declared.order.Place.TheVariants.{AtHeader, AtProcesses, AtFirstLetter, AtLetters, AtStart, AtAccept, AtRows, AtScripts, AfterEnd}
use Rattle.za_lang.specs.declared.version.Version.{Version}
use Rattle.za_lang.specs.declared.version.Version.TheVariants.{One, Two}
use Rattle.za_lang.specs.Order.{head_of, next_place, order_fault}
use Rattle.za_lang.specs.Tests.{states_line_fault}
use Rattle.za_lang.specs.Documents.{Said, but_comments, words_in, own_fault, words_fault, end_fault}
use Rattle.za_lang.specs.Gathering.{more_said}
use Rattle.za_lang.specs.Reading.{nothing}
use Rattle.za_lang.proofs.Sound.{IsWhole, IsSound, after_states, by_head}
use Rattle.za_expr.specs.Expressions.{IsNarrow, HasExpressionFault}
use Rattle.za_expr.specs.Documents.{is_expr, place_with, said_with, tokens_by, tokens_in, version_at, table_fault}
use Rattle.za_expr.specs.Documents.{HasFaultAfterLetters, HasFaultAt, HasWordsFault, HasBytesFault, HasLineFault, HasFirstFault}
use Rattle.za_expr.specs.Private.Keeping.{more_with, begins_table}
use Rattle.za_expr.proofs.Places.{expr_word, header_word, no_comment, no_tokens, more_next}
use Rattle.za_expr.proofs.Saying.{said_with_none, said_more_with, tokens_more}

-- what lines would say that give a table of one state too
abbrev pub with_table : Said → Said
with_table s = record s { states = 1 }

-- what holds at each place: the expression stands where version 2 has a table
abbrev IsRight : Place → Said → List (List ℕ) → Type 0
IsRight AtHeader s tokens = IsSound AtHeader (with_table s) × (tokens ≡ [])
IsRight AtProcesses s tokens = IsSound AtProcesses (with_table s) × (tokens ≡ [])
IsRight AtFirstLetter s tokens = IsSound AtFirstLetter (with_table s) × (tokens ≡ [])
IsRight AtLetters s tokens = IsSound AtLetters (with_table s) × (tokens ≡ [])
IsRight AtStart s tokens = ⊥
IsRight AtAccept s tokens = ⊥
IsRight AtRows s tokens = ⊥
IsRight AtScripts s tokens = IsWhole (with_table s) × IsNarrow s.letters tokens
IsRight AfterEnd s tokens = IsWhole (with_table s) × IsNarrow s.letters tokens

-- after the lines
abbrev AreRight : Said → List (List ℕ) → Type 0
AreRight s tokens = IsRight s.place s tokens

-- ---- lines of version 2

same_letters : (s : Said) (tokens : List (List ℕ)) → IsNarrow s.letters tokens → IsNarrow (s.letters ++ []) tokens
same_letters s tokens h = subst (λ letters. IsNarrow letters tokens) (sym (append-nil s.letters)) h

by_own_head : (place : Place) (h : Head) (s : Said) (words tokens : List (List ℕ)) → order_fault place h ≡ None → own_fault s h words ≡ None →
    begins_table place h ≡ false → IsRight place s tokens → IsRight (next_place place h) (more_said s h words) tokens
by_own_head AtHeader head.Zla s words tokens o w t right = (by_head AtHeader head.Zla (with_table s) words refl w right.0, right.1)
by_own_head AtHeader _ s words tokens o w t right = absurd (cc)
by_own_head AtProcesses head.Processes s words tokens o w t right = (by_head AtProcesses head.Processes (with_table s) words refl w right.0, right.1)
by_own_head AtProcesses _ s words tokens o w t right = absurd (cc)
by_own_head AtFirstLetter head.Letter s words tokens o w t right = (by_head AtFirstLetter head.Letter (with_table s) words refl w right.0, right.1)
by_own_head AtFirstLetter _ s words tokens o w t right = absurd (cc)
by_own_head AtLetters head.Letter s words tokens o w t right = (by_head AtLetters head.Letter (with_table s) words refl w right.0, right.1)
by_own_head AtLetters _ s words tokens o w t right = absurd (cc)
by_own_head AtStart h s words tokens o w t right = absurd right
by_own_head AtAccept h s words tokens o w t right = absurd right
by_own_head AtRows h s words tokens o w t right = absurd right
by_own_head AtScripts head.Script s words tokens o w t right =
    (by_head AtScripts head.Script (with_table s) words refl w right.0, same_letters s tokens right.1)
by_own_head AtScripts head.End s words tokens o w t right =
    (by_head AtScripts head.End (with_table s) words refl w right.0, same_letters s tokens right.1)
by_own_head AtScripts _ s words tokens o w t right = absurd (cc)
by_own_head AfterEnd _ s words tokens o w t right = absurd (cc)

own_line : (s : Said) (word : List ℕ) (words tokens : List (List ℕ)) → words_fault s (word ∷ words) ≡ None → begins_table s.place (head_of word) ≡ false →
    AreRight s tokens → AreRight (more_with s (word ∷ words)) (tokens ++ tokens_by (word ∷ words))
own_line s word words tokens w t right =
    let parts = none_of_or (order_fault s.place (head_of word)) (own_fault s (head_of word) words) w in
    let same : tokens ++ tokens_by (word ∷ words) ≡ tokens = ap (λ ts. tokens ++ ts) (no_tokens s.place word words parts.0) ∙ append-nil tokens in
    subst (λ ts. AreRight (more_with s (word ∷ words)) ts) (sym same)
    (subst (λ (u : Said). AreRight u tokens) (sym (more_next s word words parts.0))
    (by_own_head s.place (head_of word) s words tokens parts.0 parts.1 t right))

-- ---- the header and the `expr` line

whole_at : (place : Place) (s : Said) → IsWhole s → IsWhole (record s { place = place })
whole_at place s h = record {
  distributed = h.distributed;
  few = h.few;
  named = h.named;
  some_state = h.some_state;
  few_states = h.few_states;
  starts = h.starts;
  targets = h.targets;
  own = h.own;
  few_steps = h.few_steps;
}

one_state : (version : Version) → states_line_fault version (codes "1" ∷ []) ≡ None
one_state One = refl
one_state Two = refl

narrow_words : (s : Said) (words : List (List ℕ)) → HasExpressionFault s.letters words None → IsNarrow s.letters words
narrow_words s [] h = absurd (cc)
narrow_words s (token ∷ tokens) h = h

-- as if a table of one state stood there
expr_line : (s : Said) (words tokens : List (List ℕ)) → HasExpressionFault s.letters words None → IsRight AtLetters s tokens →
    IsRight AtScripts (more_with s (codes "expr" ∷ words)) (tokens ++ words)
expr_line s words tokens h right =
    let whole = after_states (with_table s) (codes "1" ∷ []) (one_state s.naming.version) right.0 in
    let same : words ≡ tokens ++ words = ap (λ ts. ts ++ words) (sym right.1) in (
      whole_at AtScripts (more_said (with_table s) head.States (codes "1" ∷ [])) whole,
      subst (λ ts. IsNarrow (s.letters ++ []) ts) same (same_letters s words (narrow_words s words h)),
    )

header_line : (s : Said) (words tokens : List (List ℕ)) → IsRight AtHeader s tokens → IsRight AtProcesses (more_with s (codes "zla" ∷ words)) (tokens ++ [])
header_line s words tokens right =
    (by_head AtHeader head.Zla (with_table s) (codes "2" ∷ []) refl refl right.0, append-nil tokens ∙ right.1)

-- ---- each line

no_table : (h : Head) → table_fault h ≡ None → begins_table AtLetters h ≡ false
no_table head.States h = absurd (cc)
no_table _ h = refl

by_letters : (is : Bool) (s : Said) (word : List ℕ) (words tokens : List (List ℕ)) → s.place ≡ AtLetters → is_expr word ≡ is →
    HasFaultAfterLetters is s word words None → AreRight s tokens → AreRight (more_with s (word ∷ words)) (tokens ++ tokens_by (word ∷ words))
by_letters true s word words tokens at is h right =
    let here : IsRight AtLetters s tokens = subst (λ p. IsRight p s tokens) at right in
    subst (λ w. AreRight (more_with s (w ∷ words)) (tokens ++ tokens_by (w ∷ words))) (sym (expr_word word is)) (expr_line s words tokens h here)
by_letters false s word words tokens at is h right =
    let parts = none_of_or (table_fault (head_of word)) (words_fault s (word ∷ words)) h in
    own_line s word words tokens parts.1 (ap (λ p. begins_table p (head_of word)) at ∙ no_table (head_of word) parts.0) right

by_place : (place : Place) (s : Said) (word : List ℕ) (words tokens : List (List ℕ)) → s.place ≡ place → HasFaultAt place s word words None →
    AreRight s tokens → AreRight (more_with s (word ∷ words)) (tokens ++ tokens_by (word ∷ words))
by_place AtHeader s word words tokens at h right =
    let here : IsRight AtHeader s tokens = subst (λ p. IsRight p s tokens) at right in
    subst (λ w. AreRight (more_with s (w ∷ words)) (tokens ++ tokens_by (w ∷ words))) (sym (header_word word words h)) (header_line s words tokens here)
by_place AtLetters s word words tokens at h right = by_letters (is_expr word) s word words tokens at refl h right
by_place AtProcesses s word words tokens at h right = own_line s word words tokens h (ap (λ p. begins_table p (head_of word)) at) right
by_place AtFirstLetter s word words tokens at h right = own_line s word words tokens h (ap (λ p. begins_table p (head_of word)) at) right
by_place AtStart s word words tokens at h right = own_line s word words tokens h (ap (λ p. begins_table p (head_of word)) at) right
by_place AtAccept s word words tokens at h right = own_line s word words tokens h (ap (λ p. begins_table p (head_of word)) at) right
by_place AtRows s word words tokens at h right = own_line s word words tokens h (ap (λ p. begins_table p (head_of word)) at) right
by_place AtScripts s word words tokens at h right = own_line s word words tokens h (ap (λ p. begins_table p (head_of word)) at) right
by_place AfterEnd s word words tokens at h right = own_line s word words tokens h (ap (λ p. begins_table p (head_of word)) at) right

by_words : (s : Said) (words tokens : List (List ℕ)) → HasWordsFault s words None → AreRight s tokens → AreRight (more_with s words) (tokens ++ tokens_by words)
by_words s [] tokens h right = subst (λ ts. AreRight (more_with s []) ts) (sym (append-nil tokens)) right
by_words s (word ∷ words) tokens h right = by_place s.place s word words tokens refl h right

-- the words of a right line are those of version 2, of the header too
same_words : (place : Place) (s : Said) (ws : List (List ℕ)) →
    ((word : List ℕ) (words : List (List ℕ)) → but_comments (version_at place) ws ≡ word ∷ words → HasFaultAt place s word words None) →
    but_comments (version_at place) ws ≡ but_comments Two ws
same_words AtHeader s [] h = refl
same_words AtHeader s (word ∷ words) h = let plain = no_comment AtHeader s word words refl (h word words refl) in rw plain refl
same_words AtProcesses s ws h = refl
same_words AtFirstLetter s ws h = refl
same_words AtLetters s ws h = refl
same_words AtStart s ws h = refl
same_words AtAccept s ws h = refl
same_words AtRows s ws h = refl
same_words AtScripts s ws h = refl
same_words AfterEnd s ws h = refl

right_words : (whole allowed : Bool) (s : Said) (line : RawLine) → HasBytesFault whole allowed s line None →
    HasWordsFault s (words_in (version_at s.place) line) None
right_words false allowed s line h = absurd (cc)
right_words true false s line h = absurd (cc)
right_words true true s line h = h

by_line : (s : Said) (line : RawLine) (tokens : List (List ℕ)) → HasLineFault s line None → AreRight s tokens →
    AreRight (more_with s (words_in Two line)) (tokens ++ tokens_by (words_in Two line))
by_line s line tokens h right =
    let here = right_words line.whole (list_all is_allowed line.text) s line h in
    let same = same_words s.place s (words_of line.text) (λ word words e. subst (λ ws. HasWordsFault s ws None) e here) in
    by_words s (words_in Two line) tokens (subst (λ ws. HasWordsFault s ws None) same here) right

-- ---- all lines

-- all is said that a job needs, and the expression has few enough values
pub record IsWholeWith (s : Said) (tokens : List (List ℕ)) : Type 0 where
  pub whole : IsWhole (with_table s)
  pub narrow : IsNarrow s.letters tokens

at_end : (place : Place) (n : ℕ) (s : Said) (tokens : List (List ℕ)) → None ≡ end_fault place n → IsRight place s tokens → IsWholeWith s tokens
at_end AfterEnd n s tokens h right = record { whole = right.0; narrow = right.1 }
at_end AtHeader n s tokens h right = absurd (cc)
at_end AtProcesses n s tokens h right = absurd (cc)
at_end AtFirstLetter n s tokens h right = absurd (cc)
at_end AtLetters n s tokens h right = absurd (cc)
at_end AtStart n s tokens h right = absurd (cc)
at_end AtAccept n s tokens h right = absurd (cc)
at_end AtRows n s tokens h right = absurd (cc)
at_end AtScripts n s tokens h right = absurd (cc)

all_right : (before lines : List RawLine) → HasFirstFault before lines None → AreRight (said_with before) (tokens_in before) →
    IsWholeWith (said_with (before ++ lines)) (tokens_in (before ++ lines))
all_right before [] h right =
    subst (λ ls. IsWholeWith (said_with ls) (tokens_in ls)) (sym (append-nil before))
    (at_end (place_with before) (length before) (said_with before) (tokens_in before) h right)
all_right before (line ∷ lines) (inl wrong) right = absurd (let no = wrong.here in cc)
all_right before (line ∷ lines) (inr h) right =
    let next = by_line (said_with before) line (tokens_in before) h.0 right in
    let there : AreRight (said_with (before ++ line ∷ [])) (tokens_in (before ++ line ∷ [])) =
    subst (λ (s : Said). AreRight s (tokens_in (before ++ line ∷ []))) (sym (said_more_with before line))
    (subst (λ ts. AreRight (more_with (said_with before) (words_in Two line)) ts) (sym (tokens_more before line)) next) in
    subst (λ ls. IsWholeWith (said_with ls) (tokens_in ls)) (append_assoc before (line ∷ []) lines) (all_right (before ++ line ∷ []) lines h.1 there)

pub lines_whole : (lines : List RawLine) → HasFirstFault [] lines None → IsWholeWith (said_with lines) (tokens_in lines)
lines_whole lines h =
    let none : AreRight (nothing Two) [] = ((record { start = refl; rows = refl; steps = refl }, refl), refl) in
    all_right [] lines h (subst (λ (s : Said). AreRight s []) (sym said_with_none) none)
