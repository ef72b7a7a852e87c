-- A line of words that isn't cut, nor has a byte that isn't allowed, nor is a comment.
use Rattle.std.proofs.Common.{◌≡◌, ◌∙◌, ap, sym, subst, refl, ℕ, true, false, List, ◌∷◌, Option, Some}
use Rattle.std.specs.List.{list_all}
use Rattle.za_text.specs.Lines.{RawLine, is_allowed}
use Rattle.za_text.specs.Words.{words_of}
use Rattle.za_text.specs.declared.kind.Kind.{Kind}
use Rattle.za_lang.specs.declared.fault.Refusal.{Refusal}
use Rattle.za_lang.specs.declared.fault.Refusal.TheVariants as refusal
use Rattle.za_lang.specs.declared.version.Version.{Version}
use Rattle.za_lang.specs.declared.version.Version.TheVariants.{Two}
use Rattle.za_lang.specs.Documents.{Said, begins_comment, but_comments, words_in}
use Rattle.za_expr.specs.Documents.{version_at, HasFaultAt, HasWordsFault, HasBytesFault, HasLineFault}
use Rattle.za_expr.specs.Private.Keeping.{IsWrongBy}

words_by : (v : Version) (line : RawLine) (word : List ℕ) (words : List (List ℕ)) → words_of line.text ≡ word ∷ words → begins_comment v word ≡ false →
    words_in v line ≡ word ∷ words
words_by v line word words e plain = ap (but_comments v) e ∙ (rw plain refl)

pub right_words : (line : RawLine) (word : List ℕ) (words : List (List ℕ)) → words_of line.text ≡ word ∷ words → begins_comment Two word ≡ false →
    words_in Two line ≡ word ∷ words
right_words line word words e plain = words_by Two line word words e plain

pub right_line : (s : Said) (line : RawLine) (word : List ℕ) (words : List (List ℕ)) → line.whole ≡ true → list_all is_allowed line.text ≡ true →
    words_of line.text ≡ word ∷ words →
    begins_comment (version_at s.place) word ≡ false → (fault : Option Kind) → HasFaultAt s.place s word words fault → HasLineFault s line fault
right_line s line word words whole allowed e plain fault right =
    let tested = words_by (version_at s.place) line word words e plain in
    subst (λ b. HasBytesFault b (list_all is_allowed line.text) s line fault) (sym whole)
    (subst (λ b. HasBytesFault true b s line fault) (sym allowed)
    (subst (λ ws. HasWordsFault s ws fault) (sym tested) right))

pub wrong_line : (s : Said) (line : RawLine) (word : List ℕ) (words : List (List ℕ)) → line.whole ≡ true → list_all is_allowed line.text ≡ true →
    words_of line.text ≡ word ∷ words →
    begins_comment (version_at s.place) word ≡ false → (e : Refusal) → IsWrongBy (HasFaultAt s.place s word words) e → IsWrongBy (HasLineFault s line) e
wrong_line s line word words whole allowed e plain (refusal.Wrong kind) wrong = right_line s line word words whole allowed e plain (Some kind) wrong
wrong_line s line word words whole allowed e plain refusal.OutOfMemory wrong = tt
