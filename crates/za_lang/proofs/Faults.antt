-- The first wrong line, from the lines before a place.
use Rattle.std.proofs.Common.{◌≡◌, ◌∙◌, ap, sym, ℕ, ◌+◌, zero, suc, List, [], ◌∷◌, ◌++◌, length, take, drop, refl, add-one, arith, length-append, Some, None}
use Rattle.std.proofs.lemmas.List.{append-nil, take-append-drop}
use Rattle.std.specs.Option.{option_or, option_map}
use Rattle.za_text.specs.Lines.{RawLine}
use Rattle.za_lang.specs.declared.version.Version.{Version}
use Rattle.za_lang.specs.Documents.{said, version_of, words_in, line_fault, end_fault, next_fault, faults_from}
use Rattle.za_text.specs.Lines.{lines_of}
use Rattle.za_lang.specs.declared.fault.Refusal.{Refusal}
use Rattle.za_lang.specs.declared.fault.Refusal.TheVariants as refusal
use Rattle.za_lang.specs.Answers.{IsRefused, fault_at}
use Rattle.za_lang.specs.Gathering.{more, IsWrong}
use Rattle.za_lang.proofs.Saying.{said_more}

-- the lines at a place, and those before the place after it
pub cut_at : (all : List RawLine) (n : ℕ) (line : RawLine) (rest : List RawLine) → drop n all ≡ line ∷ rest →
    (drop (suc n) all ≡ rest) × (take (suc n) all ≡ take n all ++ line ∷ [])
cut_at [] zero line rest h = absurd (cc)
cut_at [] (suc n) line rest h = absurd (cc)
cut_at (x ∷ xs) zero line rest h = ((cc), (cc))
cut_at (x ∷ xs) (suc n) line rest h = let r = cut_at xs n line rest h in (r.0, ap (λ t. x ∷ t) r.1)

-- so many lines are right, and these are left
pub record AreRead (v : Version) (all : List RawLine) (n : ℕ) (left : List RawLine) : Type 0 where
  pub left_are : drop n all ≡ left
  pub faults : faults_from v (take n all) left ≡ faults_from v [] all
  pub size : length (take n all) ≡ n

pub begins : (v : Version) (all : List RawLine) → AreRead v all 0 all
begins v all = record { left_are = refl; faults = refl; size = refl }

-- a right line
pub goes_on : (v : Version) (all : List RawLine) (n m : ℕ) (left : List RawLine) (line : RawLine) (rest : List RawLine) → AreRead v all n left →
    left ≡ line ∷ rest →
    line_fault (said v (take n all)) line ≡ None → m ≡ n + 1 →
    AreRead v all m rest × (said v (take m all) ≡ more (said v (take n all)) (words_in v line))
goes_on v all n m left line rest h e right step =
    let cut = cut_at all n line rest (h.left_are ∙ e) in
    let one : m ≡ suc n = step ∙ add-one n in
    let before : take m all ≡ take n all ++ line ∷ [] = rw one cut.1 in
    let faults : faults_from v (take n all) (line ∷ rest) ≡ faults_from v [] all = ap (λ ls. faults_from v (take n all) ls) (sym e) ∙ h.faults in (
      record {
        left_are = rw one cut.0;
        faults = rw before (rw right at faults);
        size = rw before (omega (arith, length-append (take n all) (line ∷ []), h.size));
      },
      ap (said v) before ∙ said_more v (take n all) line,
    )

-- no line is left
pub ends : (v : Version) (all : List RawLine) (n : ℕ) (left : List RawLine) → AreRead v all n left → left ≡ [] →
    (faults_from v [] all ≡ end_fault (said v all).place n) × (take n all ≡ all)
ends v all n left h e =
    let split : take n all ++ drop n all ≡ all = take-append-drop n all in
    let none : drop n all ≡ [] = h.left_are ∙ e in
    let whole : take n all ≡ all = sym (append-nil (take n all)) ∙ (rw none at split) in
    let done : end_fault (said v (take n all)).place (length (take n all)) ≡ faults_from v [] all = ap (λ ls. faults_from v (take n all) ls) (sym e)
    ∙ h.faults in
    (sym done ∙ ap (end_fault (said v (take n all)).place) h.size ∙ ap (λ ls. end_fault (said v ls).place n) whole, whole)

-- a wrong line
pub stops : (bytes : List ℕ) (n number : ℕ) (left : List RawLine) (line : RawLine) (rest : List RawLine) →
    AreRead (version_of (lines_of bytes)) (lines_of bytes) n left → left ≡ line ∷ rest →
    number ≡ n + 1 → (why : Refusal) → IsWrong (line_fault (said (version_of (lines_of bytes)) (take n (lines_of bytes))) line) why →
    IsRefused bytes (fault_at number why)
stops bytes n number left line rest h e is refusal.OutOfMemory wrong = tt
stops bytes n number left line rest h e is (refusal.Wrong kind) wrong =
    let v = version_of (lines_of bytes) in
    let before = take n (lines_of bytes) in
    sym h.faults ∙ ap (faults_from v before) e
    ∙ ap (λ o. option_or (option_map (next_fault (length before)) o) (faults_from v (before ++ line ∷ []) rest)) wrong
    ∙ ap (λ k. Some (next_fault k kind)) h.size ∙ ap (λ k. Some (record { line = k; kind = kind })) (sym is)
