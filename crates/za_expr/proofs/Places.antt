-- Places of lines, and first words.
use Rattle.std.proofs.Common.{◌≡◌, ◌∙◌, ap, sym, refl, ℕ, Bool, true, false, cond, ◌&&◌, inl, inr, List, [], ◌∷◌, None}
use Rattle.std.specs.Prelude.{codes, is_some}
use Rattle.std.specs.Str.{bytes_eq}
use Rattle.std.proofs.lemmas.Bool.{cases_Bool, and_parts}
use Rattle.std.proofs.lemmas.Slice.Eq.{bytes_eq-Decides}
use Rattle.za_alpha.specs.Alphabet.{NamedLetter}
use Rattle.za_lang.specs.declared.order.Head.TheVariants as head
use Rattle.za_lang.specs.declared.order.Place.{Place}
use Rattle.za_lang.specs.declared.order.Place.TheVariants.{AtHeader, AtProcesses, AtFirstLetter, AtLetters, AtStart, AtAccept, AtRows, AtScripts, AfterEnd}
use Rattle.za_lang.specs.declared.reading.Reading.{Reading}
use Rattle.za_lang.specs.declared.reading.Reading.TheVariants as reading
use Rattle.za_lang.specs.declared.version.Version.TheVariants.{Two}
use Rattle.za_lang.specs.Order.{head_of, next_place, order_fault}
use Rattle.za_lang.specs.Documents.{Said, begins_comment}
use Rattle.za_lang.specs.Gathering.{more_said}
use Rattle.za_lang.specs.Reading.{letters_place, reading_place, is_late}
use Rattle.za_lang.proofs.Keeping.{kept_place}
use Rattle.za_expr.specs.Documents.{is_expr, tokens_by, header_fault, version_at, HasFaultAt}
use Rattle.za_expr.specs.Private.Keeping.{more_with, KeepsWith}

pub expr_word : (word : List ℕ) → is_expr word ≡ true → word ≡ codes "expr"
expr_word word h = (bytes_eq-Decides word (codes "expr")).0 h

-- `expr` stands nowhere in version 2
expr_is_other : (word : List ℕ) → is_expr word ≡ true → head_of word ≡ head.Other
expr_is_other word h = ap head_of (expr_word word h)

other_nowhere : (place : Place) → order_fault place head.Other ≡ None → ⊥
other_nowhere AtHeader h = cc
other_nowhere AtProcesses h = cc
other_nowhere AtFirstLetter h = cc
other_nowhere AtLetters h = cc
other_nowhere AtStart h = cc
other_nowhere AtAccept h = cc
other_nowhere AtRows h = cc
other_nowhere AtScripts h = cc
other_nowhere AfterEnd h = cc

pub not_expr : (place : Place) (word : List ℕ) → order_fault place (head_of word) ≡ None → is_expr word ≡ false
not_expr place word h =
    elim (cases_Bool (is_expr word)) [
      | inl t ↦ absurd (other_nowhere place (ap (order_fault place) (sym (expr_is_other word t)) ∙ h))
      | inr f ↦ f
    ]

-- a line that may stand at its place in version 2 says what it says there
pub more_next : (s : Said) (word : List ℕ) (words : List (List ℕ)) → order_fault s.place (head_of word) ≡ None →
    more_with s (word ∷ words) ≡ more_said s (head_of word) words
more_next s word words h =
    let no = not_expr s.place word h in
    ap (λ (b : Bool). let t : Said = record (more_said s (head_of word) words) { place = cond b AtScripts (next_place s.place (head_of word)) } in t) no

pub no_tokens : (place : Place) (word : List ℕ) (words : List (List ℕ)) → order_fault place (head_of word) ≡ None → tokens_by (word ∷ words) ≡ []
no_tokens place word words h = ap (λ (b : Bool). cond b words []) (not_expr place word h)

letters_early : (letters : List NamedLetter) → is_late (letters_place letters) ≡ false
letters_early [] = refl
letters_early (letter ∷ letters) = refl

-- the place that the lines lead to
pub kept_at : (r : Reading) (s : Said) (tokens : List (List ℕ)) → KeepsWith r s tokens → reading_place r ≡ s.place
kept_at reading.Header s tokens h = kept_place reading.Header s h.keeps
kept_at (reading.Processes version) s tokens h = kept_place (reading.Processes version) s h.keeps
kept_at (reading.Letters version names letters) s tokens h = kept_place (reading.Letters version names letters) s h.keeps
kept_at (reading.Body place job) s tokens h = h.at

abbrev IsBodyAt : Reading → Type 0
IsBodyAt (reading.Body place job) = ⊥
IsBodyAt _ = Unit {0}

pub early_place : (r : Reading) → IsBodyAt r → is_late (reading_place r) ≡ false
early_place reading.Header h = refl
early_place (reading.Processes version) h = refl
early_place (reading.Letters version names letters) h = letters_early letters.letters
early_place (reading.Body place job) h = absurd h

-- the header's first word
pub header_word : (word : List ℕ) (words : List (List ℕ)) → header_fault (word ∷ words) ≡ None → word ≡ codes "zla"
header_word word [] h = absurd (cc)
header_word word (other ∷ x ∷ words) h = absurd (cc)
header_word word (other ∷ []) h =
    elim (cases_Bool (bytes_eq word (codes "zla") && is_expr other)) [
      | inl t ↦ (bytes_eq-Decides word (codes "zla")).0 (and_parts (bytes_eq word (codes "zla")) (is_expr other) t).0
      | inr f ↦ absurd (let e : true ≡ false = ap is_some (rw f at h) in cc)
    ]

-- a right line isn't a comment in version 2 either
pub no_comment : (place : Place) (s : Said) (word : List ℕ) (words : List (List ℕ)) → begins_comment (version_at place) word ≡ false →
    HasFaultAt place s word words None → begins_comment Two word ≡ false
no_comment AtHeader s word words plain right = ap (begins_comment Two) (header_word word words right)
no_comment AtProcesses s word words plain right = plain
no_comment AtFirstLetter s word words plain right = plain
no_comment AtLetters s word words plain right = plain
no_comment AtStart s word words plain right = plain
no_comment AtAccept s word words plain right = plain
no_comment AtRows s word words plain right = plain
no_comment AtScripts s word words plain right = plain
no_comment AfterEnd s word words plain right = plain
