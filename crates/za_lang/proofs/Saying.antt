-- What lines and one more say.
use Rattle.std.proofs.Common.{◌≡◌, ◌∙◌, sym, ℕ, List, [], ◌∷◌, ◌++◌, refl, append_assoc}
use Rattle.std.proofs.lemmas.List.{append-nil}
use Rattle.std.proofs.lemmas.List.Sums.{fold-append}
use Rattle.std.proofs.lemmas.List.Concat.{flat_map-append}
use Rattle.za_text.specs.Lines.{RawLine}
use Rattle.za_lang.specs.declared.version.Version.{Version}
use Rattle.za_lang.specs.Documents.{Said, said, words_in, place_by, place_after, names_by, names_in, naming_in, letters_by, letters_in, letters_from, states_by}
use Rattle.za_lang.specs.Documents.{states_in, start_by, start_in, accepts_by, accepts_in, rows_by, rows_from, steps_by, steps_from}
use Rattle.za_lang.specs.Gathering.{more}
use Rattle.za_lang.specs.Reading.{nothing}

abbrev more_of : Said → List (List ℕ) → Said
more_of s ws = record {
  place = place_by s.place ws;
  naming = record s.naming { names = names_by s.naming.version s.naming.names ws };
  letters = s.letters ++ letters_by s.naming ws;
  states = states_by s.states ws;
  start = start_by s.start ws;
  accepts = s.accepts ++ accepts_by ws;
  rows = s.rows ++ rows_by s.letters ws;
  steps = s.steps ++ steps_by s.naming s.letters ws;
}

more_is : (s : Said) (ws : List (List ℕ)) → more_of s ws ≡ more s ws
more_is s [] = simp append-nil
more_is s (w ∷ ws) = refl

letters-snoc : (v : Version) (before ls : List RawLine) (line : RawLine) →
    letters_from v before (ls ++ line ∷ []) ≡ letters_from v before ls ++ letters_by (naming_in v (before ++ ls)) (words_in v line)
letters-snoc v before [] line = simp append-nil
letters-snoc v before (l ∷ ls) line =
    let here = letters_by (naming_in v before) (words_in v l) in
    let later = letters-snoc v (before ++ l ∷ []) ls line in
    let e : (before ++ l ∷ []) ++ ls ≡ before ++ l ∷ ls = append_assoc before (l ∷ []) ls in rw later (rw e (sym (append_assoc here _ _)))

accepts-snoc : (v : Version) (ls : List RawLine) (line : RawLine) → accepts_in v (ls ++ line ∷ []) ≡ accepts_in v ls ++ accepts_by (words_in v line)
accepts-snoc v ls line = flat_map-append _ ls (line ∷ []) ∙ simp append-nil

rows-snoc : (v : Version) (before ls : List RawLine) (line : RawLine) →
    rows_from v before (ls ++ line ∷ []) ≡ rows_from v before ls ++ rows_by (letters_in v (before ++ ls)) (words_in v line)
rows-snoc v before [] line = simp append-nil
rows-snoc v before (l ∷ ls) line =
    let here = rows_by (letters_in v before) (words_in v l) in
    let later = rows-snoc v (before ++ l ∷ []) ls line in
    let e : (before ++ l ∷ []) ++ ls ≡ before ++ l ∷ ls = append_assoc before (l ∷ []) ls in rw later (rw e (sym (append_assoc here _ _)))

steps-snoc : (v : Version) (before ls : List RawLine) (line : RawLine) →
    steps_from v before (ls ++ line ∷ []) ≡ steps_from v before ls ++ steps_by (naming_in v (before ++ ls)) (letters_in v (before ++ ls)) (words_in v line)
steps-snoc v before [] line = simp append-nil
steps-snoc v before (l ∷ ls) line =
    let here = steps_by (naming_in v before) (letters_in v before) (words_in v l) in
    let later = steps-snoc v (before ++ l ∷ []) ls line in
    let e : (before ++ l ∷ []) ++ ls ≡ before ++ l ∷ ls = append_assoc before (l ∷ []) ls in rw later (rw e (sym (append_assoc here _ _)))

pub said_none : (v : Version) → said v [] ≡ nothing v
unfolding said
said_none v = refl

-- lines are said in the version that they are read in
pub said_version : (v : Version) (ls : List RawLine) → (said v ls).naming.version ≡ v
unfolding said
said_version v ls = refl

pub said_more : (v : Version) (ls : List RawLine) (line : RawLine) → said v (ls ++ line ∷ []) ≡ more (said v ls) (words_in v line)
unfolding said
said_more v ls line =
    let p : place_after v (ls ++ line ∷ []) ≡ place_by (place_after v ls) (words_in v line) = fold-append _ _ ls (line ∷ []) in
    let n : names_in v (ls ++ line ∷ []) ≡ names_by v (names_in v ls) (words_in v line) = fold-append _ _ ls (line ∷ []) in
    let l = letters-snoc v [] ls line in
    let st : states_in v (ls ++ line ∷ []) ≡ states_by (states_in v ls) (words_in v line) = fold-append _ _ ls (line ∷ []) in
    let q : start_in v (ls ++ line ∷ []) ≡ start_by (start_in v ls) (words_in v line) = fold-append _ _ ls (line ∷ []) in
    let a = accepts-snoc v ls line in
    let r = rows-snoc v [] ls line in
    let s = steps-snoc v [] ls line in
    rw p (rw n (rw l (rw st (rw q (rw a (rw r (rw s (more_is (said v ls) (words_in v line)))))))))
