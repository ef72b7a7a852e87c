-- Where a reading stands, and its version.
use Rattle.std.proofs.Common.{◌≡◌, ap, sym, refl, Bool, true, false, cond, inl, inr, ℕ, List}
use Rattle.std.specs.Prelude.{codes}
use Rattle.std.specs.Str.{bytes_eq}
use Rattle.std.proofs.lemmas.Bool.{cases_Bool}
use Rattle.std.proofs.lemmas.Slice.Eq.{bytes_eq-Decides}
use Rattle.za_lang.specs.declared.reading.Reading.{Reading}
use Rattle.za_lang.specs.declared.reading.Reading.TheVariants as reading
use Rattle.za_lang.specs.declared.order.Head.{Head}
use Rattle.za_lang.specs.declared.order.Head.TheVariants as head
use Rattle.za_lang.specs.declared.version.Version.{Version}
use Rattle.za_lang.specs.declared.version.Version.TheVariants.{One, Two}
use Rattle.za_lang.specs.Order.{head_of}
use Rattle.za_lang.specs.Documents.{Said, begins_comment, version_said}
use Rattle.za_lang.specs.Reading.{reading_place, reading_version, Keeps, Awaits}

-- the place that the lines lead to
pub kept_place : (r : Reading) (s : Said) → Keeps r s → reading_place r ≡ s.place
kept_place reading.Header s h = ap (λ (t : Said). t.place) (sym h)
kept_place (reading.Processes version) s h = ap (λ (t : Said). t.place) (sym h)
kept_place (reading.Letters version names letters) s h = ap (λ (t : Said). t.place) (sym h)
kept_place (reading.Body place job) s h = h.0

-- a word that is none of the others isn't the header's
no_header : (b c d e f g h i : Bool) →
    cond b head.Processes (cond c head.Letter
    (cond d head.States (cond e head.Start (cond f head.Accept (cond g head.Row (cond h head.Script (cond i head.End head.Other))))))) ≡ head.Zla → ⊥
no_header true c d e f g h i p = cc
no_header false true d e f g h i p = cc
no_header false false true e f g h i p = cc
no_header false false false true f g h i p = cc
no_header false false false false true g h i p = cc
no_header false false false false false true h i p = cc
no_header false false false false false false true i p = cc
no_header false false false false false false false true p = cc
no_header false false false false false false false false p = cc

header_word : (word : List ℕ) → head_of word ≡ head.Zla → word ≡ codes "zla"
header_word word h =
    elim (cases_Bool (bytes_eq word (codes "zla"))) [
      | inl t ↦ (bytes_eq-Decides word (codes "zla")).0 t
      | inr f ↦ absurd (no_header (bytes_eq word (codes "processes")) (bytes_eq word (codes "letter")) (bytes_eq word (codes "states"))
          (bytes_eq word (codes "start")) (bytes_eq word (codes "accept")) (bytes_eq word (codes "row")) (bytes_eq word (codes "script"))
          (bytes_eq word (codes "end")) (rw f at h))
    ]

-- only a header says version 2
two_says : (h : Head) (words : List (List ℕ)) → version_said h words ≡ Two → h ≡ head.Zla
two_says head.Zla words e = refl
two_says head.Processes words e = absurd (cc)
two_says head.Letter words e = absurd (cc)
two_says head.States words e = absurd (cc)
two_says head.Start words e = absurd (cc)
two_says head.Accept words e = absurd (cc)
two_says head.Row words e = absurd (cc)
two_says head.Script words e = absurd (cc)
two_says head.End words e = absurd (cc)
two_says head.Other words e = absurd (cc)

no_comment : (v : Version) (word : List ℕ) (words : List (List ℕ)) → version_said (head_of word) words ≡ v → begins_comment v word ≡ false
no_comment One word words h = refl
no_comment Two word words h = ap (begins_comment Two) (header_word word (two_says (head_of word) words h))

-- a comment is one in the version as far as it is known
pub same_comment : (r : Reading) (v : Version) (word : List ℕ) (words : List (List ℕ)) → Awaits r (version_said (head_of word) words) v →
    begins_comment (reading_version r v) word ≡ begins_comment v word
same_comment reading.Header v word words h = sym (no_comment v word words h)
same_comment (reading.Processes version) v word words h = refl
same_comment (reading.Letters version names letters) v word words h = refl
same_comment (reading.Body place job) v word words h = refl
