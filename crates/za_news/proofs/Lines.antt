-- Where a reader of readings has come to.
use Rattle.std.proofs.Common.{◌≡◌, ℕ, ◌+◌, List, [], ◌∷◌, ◌++◌, length, Some, None, sym, ap, ◌∙◌, append_assoc, append-nil}
use Rattle.std.specs.Option.{option_or, option_map}
use Rattle.std.proofs.lemmas.List.FromFn.{fill_by_all}
use Rattle.za_text.specs.Lines.{RawLine}
use Rattle.za_lang.specs.Answers.{fault_at, IsRefusedWith}
use Rattle.za_lang.specs.declared.version.Version.{Version}
use Rattle.za_lang.specs.declared.fault.Refusal.{Refusal}
use Rattle.za_lang.specs.declared.fault.Refusal.TheVariants.{Wrong, OutOfMemory}
use Rattle.za_lang.specs.Documents.{words_in, next_fault}
use Rattle.za_lang.specs.Gathering.{IsWrong}
use Rattle.za_news.specs.declared.order.Place.{Place}
use Rattle.za_news.specs.declared.order.Place.TheVariants.{AtReadings}
use Rattle.za_news.specs.Readings.{list_of}
use Rattle.za_news.specs.Grammar.{numbers_by, numbers_in, readings_said, read_line_kind, reading_faults, reading_end_fault, reading_place_by}

-- the lines that are left are tested from this place on, and say what the readings so far lack of those of all lines
pub record IsReadSo (version : Version) (names : List (List ℕ)) (first passed : ℕ) (all left : List RawLine) (place : Place) (readings : List (List ℕ)) : Type 0
  where
    pub size : length readings ≡ length names
    pub faults : reading_faults version names AtReadings first all ≡ reading_faults version names place passed left
    pub said : (q : ℕ) → list_of readings q ++ numbers_in version names left q ≡ numbers_in version names all q

module _ {version : Version} {names : List (List ℕ)} {first passed : ℕ} {all left : List RawLine} {place : Place} {readings : List (List ℕ)}
    (r : IsReadSo version names first passed all left place readings) (line : RawLine) (rest : List RawLine) (e : left ≡ line ∷ rest) where
  at-line : reading_faults version names AtReadings first all ≡ reading_faults version names place passed (line ∷ rest)
  at-line = r.faults ∙ ap (reading_faults version names place passed) e

  -- a right line
  pub reads-on : (k : ℕ) (then : Place) (more : List (List ℕ)) → k ≡ passed + 1 → length more ≡ length names
      → read_line_kind version names place line ≡ None → then ≡ reading_place_by place (words_in version line)
      → ((q : ℕ) → list_of more q ≡ list_of readings q ++ numbers_by names q (words_in version line))
      → IsReadSo version names first k all rest then more
  reads-on k then more step long right moved grown =
      record {
        size = long;
        faults =
            at-line
            ∙ ap (λ o. option_or (option_map (next_fault passed) o)
            (reading_faults version names (reading_place_by place (words_in version line)) (passed + 1) rest)) right
            ∙ ap (λ p. reading_faults version names p (passed + 1) rest) (sym moved) ∙ ap (λ n. reading_faults version names then n rest) (sym step);
        said = λ q.
            ap (λ xs. xs ++ numbers_in version names rest q) (grown q)
            ∙ append_assoc (list_of readings q) (numbers_by names q (words_in version line)) (numbers_in version names rest q)
            ∙ ap (λ ls. list_of readings q ++ numbers_in version names ls q) (sym e) ∙ r.said q;
      }

  -- a wrong one
  pub reads-wrong : (number : ℕ) (refusal : Refusal) → number ≡ passed + 1 → IsWrong (read_line_kind version names place line) refusal
      → IsRefusedWith (reading_faults version names AtReadings first all) (fault_at number refusal)
  reads-wrong number (Wrong kind) step wrong =
      at-line
      ∙ ap (λ o. option_or (option_map (next_fault passed) o) (reading_faults version names (reading_place_by place (words_in version line)) (passed + 1) rest))
      wrong
      ∙ ap (λ n. Some (record { line = n; kind = kind })) (sym step)
  reads-wrong number OutOfMemory step wrong = tt

-- the end of the text
module _ {version : Version} {names : List (List ℕ)} {first passed : ℕ} {all left : List RawLine} {place : Place} {readings : List (List ℕ)}
    (r : IsReadSo version names first passed all left place readings) (e : left ≡ []) where
  pub reads-end : reading_faults version names AtReadings first all ≡ reading_end_fault place passed
  reads-end = r.faults ∙ ap (reading_faults version names place passed) e

  pub says-all : readings ≡ readings_said version names all
  says-all =
      fill_by_all (numbers_in version names all) readings (length names) [] r.size
      (λ q l. sym (append-nil (list_of readings q)) ∙ ap (λ ls. list_of readings q ++ numbers_in version names ls q) (sym e) ∙ r.said q)
