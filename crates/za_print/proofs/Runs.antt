-- Lines that are right one after the other, and what they say.
use Rattle.std.proofs.Common.{◌≡◌, ◌∙◌, ap, sym, subst, ℕ, ◌<◌, ◌^◌, true, false, List, [], ◌∷◌, ◌++◌, length, map, refl, append_assoc, arith, None}
use Rattle.std.specs.Prelude.{nat_le, nat_lt, decimal, codes}
use Rattle.std.specs.List.{AllByRecursion}
use Rattle.std.proofs.lemmas.Bool.Decides.{nat_tests}
use Rattle.std.proofs.lemmas.List.{append-nil}
use Rattle.za_text.specs.Lines.{RawLine}
use Rattle.za_text.specs.Names.{is_name}
use Rattle.za_alpha.specs.Procs.{members}
use Rattle.za_alpha.specs.Rows.{set_of}
use Rattle.za_alpha.specs.Alphabet.{NamedLetter, name_at}
use Rattle.za_alpha.specs.NewNames.{is_taken}
use Rattle.za_dfa.specs.declared.rows.Row.{Row}
use Rattle.za_dfa.specs.Rows.{has_other}
use Rattle.za_text.specs.ProcessNames.{name_of}
use Rattle.za_lang.specs.declared.version.Version.{Version}
use Rattle.za_lang.specs.Limits.{document_letters}
use Rattle.za_lang.specs.Namings.{Naming, IsNaming}
use Rattle.za_lang.specs.Order.{head_of, next_place, order_fault}
use Rattle.za_lang.specs.Tests.{new_letter_fault, accept_line_fault, new_row_fault}
use Rattle.za_lang.specs.Documents.{Said, Step, said, words_fault, line_fault, faults_from}
use Rattle.za_print.specs.Printed.{letter_line, row_line}
use Rattle.za_print.proofs.PrintedLines.{IsLine, printed_line, words_in_line, line_allowed}
use Rattle.za_print.proofs.Decimals.{numeral_value-decimal}
use Rattle.za_print.proofs.ItemLemmas.{Finds}
use Rattle.za_print.proofs.ProcessWords.{processes_right, processes_said}
use Rattle.za_lang.specs.Gathering.{more}
use Rattle.za_lang.proofs.Saying.{said_more}

-- after this the lines are right, one after the other, and come to that
abbrev pub RunsTo : Said → List (List (List ℕ)) → Said → Type 0
RunsTo s [] t = s ≡ t
RunsTo s (ws ∷ wss) t = (words_fault s ws ≡ None) × RunsTo (more s ws) wss t

pub runs_on : (s t u : Said) (xs ys : List (List (List ℕ))) → RunsTo s xs t → RunsTo t ys u → RunsTo s (xs ++ ys) u
runs_on s t u [] ys h k = rw h k
runs_on s t u (ws ∷ xs) ys h k = (h.0, runs_on (more s ws) t u xs ys h.1 k)

-- a line of words is tested by its words
right_line : (s : Said) (ws : List (List ℕ)) → IsLine ws → line_fault s (printed_line ws) ≡ words_fault s ws
unfolding line_fault
right_line s ws h =
    let e = line_allowed ws h in
    let f = words_in_line s.naming.version ws h in
    rw e (ap (words_fault s) f)

-- the end of a document
abbrev pub IsAtEnd : Said → Type 0
IsAtEnd s = s.place ≡ next_place s.place (head_of (codes "end"))

-- a text of right lines to the end has no fault, and says what they say
pub runs_whole : (v : Version) (before : List RawLine) (s t : Said) (wss : List (List (List ℕ))) → AllByRecursion IsLine wss
    → said v before ≡ s → RunsTo s wss t → IsAtEnd t
    → (faults_from v before (map printed_line wss) ≡ None) × (said v (before ++ map printed_line wss) ≡ t)
runs_whole v before s t [] w h r e =
    let there : said v before ≡ t = h ∙ r in
    let place = ap (λ (x : Said). x.place) there ∙ e in
    (rw place refl, ap (said v) (append-nil before) ∙ there)
runs_whole v before s t (ws ∷ wss) w h r e =
    let right : line_fault (said v before) (printed_line ws) ≡ None = rw h (right_line s ws w.0 ∙ r.0) in
    let says : said v (before ++ printed_line ws ∷ []) ≡ more s ws = said_more v before (printed_line ws) ∙ (rw (h, words_in_line v ws w.0)) in
    let later = runs_whole v (before ++ printed_line ws ∷ []) (more s ws) t wss w.1 says r.1 e in
    (rw right later.0, ap (said v) (sym (append_assoc before (printed_line ws ∷ []) (map printed_line wss))) ∙ later.1)

below : (p n : ℕ) → p < n → nat_lt p n ≡ true
below p n h = grind (arith, nat_tests)

pub small_numbers : (n : ℕ) (ps : List ℕ) → n < 2 ^ 32 → AllByRecursion (λ p. p < n) ps → AllByRecursion (λ p. p < 2 ^ 32) ps
small_numbers n [] few h = tt
small_numbers n (p ∷ ps) few h = (omega (arith, h.0), small_numbers n ps few h.1)

-- a letter that may come after these
pub record LetterFits (v : Version) (n : ℕ) (front : List NamedLetter) (l : NamedLetter) : Type 0 where
  pub few : length front < document_letters v
  pub name : is_name l.name ≡ true
  pub fresh : is_taken front l.name ≡ false
  pub some : 0 < length (members l.loc)
  pub procs : AllByRecursion (λ p. p < n) (members l.loc)
  pub whole : set_of (members l.loc) ≡ l.loc

loc_right : (naming : Naming) (n : ℕ) (front : List NamedLetter) (l : NamedLetter) (p : ℕ) (ps : List ℕ) → IsNaming naming n →
    LetterFits naming.version n front l → members l.loc ≡ p ∷ ps →
    new_letter_fault naming front l.name (map (name_of naming.names) (p ∷ ps)) ≡ None
loc_right naming n front l p ps whole h e =
    let room : nat_le (document_letters naming.version) (length front) ≡ false = let r = h.few in grind (arith, nat_tests) in
    let right = processes_right naming n (p ∷ ps) whole (subst (AllByRecursion (λ p. p < n)) e h.procs) in
    rw (room, h.name, h.fresh) right

letter_right : (naming : Naming) (n : ℕ) (front : List NamedLetter) (l : NamedLetter) → IsNaming naming n → LetterFits naming.version n front l →
    new_letter_fault naming front l.name (map (name_of naming.names) (members l.loc)) ≡ None
letter_right naming n front l whole h = by_procs (members l.loc) refl
  where
    by_procs : (ps : List ℕ) → members l.loc ≡ ps → new_letter_fault naming front l.name (map (name_of naming.names) ps) ≡ None
    by_procs [] e = absurd (omega (arith, h.some, ap length e))
    by_procs (p ∷ ps) e = loc_right naming n front l p ps whole h e

abbrev pub AreLetters : Version → ℕ → List NamedLetter → List NamedLetter → Type 0
AreLetters v n front [] = Unit {0}
AreLetters v n front (l ∷ ls) = LetterFits v n front l × AreLetters v n (front ++ l ∷ []) ls

-- the place after a line with this first word
abbrev pub placed : List ℕ → Said → Said
placed word s = record s { place = next_place s.place (head_of word) }

abbrev pub after_letters : Said → List NamedLetter → Said
after_letters s [] = s
after_letters s (l ∷ ls) = after_letters (placed (codes "letter") (record s { letters = s.letters ++ l ∷ [] })) ls

said_letter : (l : NamedLetter) → set_of (members l.loc) ≡ l.loc → ◌≡◌ {A = NamedLetter} (record { name = l.name; loc = set_of (members l.loc) }) l
said_letter l e = ap (λ s. record { name = l.name; loc = s }) e

pub letters_run : (s : Said) (n : ℕ) (ls : List NamedLetter) → IsNaming s.naming n → order_fault s.place (head_of (codes "letter")) ≡ None →
    AreLetters s.naming.version n s.letters ls
    → RunsTo s (map (letter_line s.naming.names) ls) (after_letters s ls)
letters_run s n [] whole o h = refl
letters_run s n (l ∷ ls) whole o h =
    let right = letter_right s.naming n s.letters l whole h.0 in
    let procs = processes_said s.naming n (members l.loc) whole h.0.procs in
    let t : Said = placed (codes "letter") (record s { letters = s.letters ++ l ∷ [] }) in
    let step : t ≡ more s (letter_line s.naming.names l) = rw (procs, said_letter l h.0.whole) (simp append-nil) in
    (rw (o, right), subst (λ (x : Said). RunsTo x (map (letter_line s.naming.names) ls) (after_letters t ls)) step (letters_run t n ls whole refl h.1))

-- states that are printed
pub accepts_right : (n : ℕ) (qs : List ℕ) → n < 2 ^ 32 → AllByRecursion (λ q. q < n) qs → accept_line_fault n (map decimal qs) ≡ None
accepts_right n [] few h = refl
accepts_right n (q ∷ qs) few h =
    let e = numeral_value-decimal q (omega (arith, h.0)) in
    let f = below q n h.0 in
    rw (e, f) (accepts_right n qs few h.1)

-- a row that may come after these
pub record RowFits (states : ℕ) (letters : List NamedLetter) (front : List Row) (row : Row) : Type 0 where
  pub from : row.from < states
  pub letter : row.letter.0 < length letters
  pub to : row.to < states
  pub alone : has_other front row.from row.letter.0 row.to ≡ false

row_right : (states : ℕ) (letters : List NamedLetter) (front : List Row) (row : Row) → states < 2 ^ 32 → Finds letters → RowFits states letters front row
    → new_row_fault states letters front (decimal row.from) (name_at letters row.letter.0) (decimal row.to) ≡ None
unfolding new_row_fault
row_right states letters front row few finds h =
    let q = numeral_value-decimal row.from (omega (arith, h.from)) in
    let r = numeral_value-decimal row.to (omega (arith, h.to)) in
    let a = finds row.letter.0 h.letter in
    let e = below row.from states h.from in
    let f = below row.to states h.to in
    let o = h.alone in
    rw (q, r, a, e, f, o)

abbrev pub AreRows : ℕ → List NamedLetter → List Row → List Row → Type 0
AreRows states letters front [] = Unit {0}
AreRows states letters front (row ∷ rows) = RowFits states letters front row × AreRows states letters (front ++ row ∷ []) rows

abbrev pub after_rows : Said → List Row → Said
after_rows s [] = s
after_rows s (row ∷ rows) = after_rows (record s { rows = s.rows ++ row ∷ [] }) rows

pub rows_run : (s : Said) (rows : List Row) → s.states < 2 ^ 32 → Finds s.letters → s.place ≡ next_place s.place (head_of (codes "row")) →
    order_fault s.place (head_of (codes "row")) ≡ None
    → AreRows s.states s.letters s.rows rows → RunsTo s (map (row_line s.letters) rows) (after_rows s rows)
rows_run s [] few finds o f h = refl
rows_run s (row ∷ rows) few finds o f h =
    let right = row_right s.states s.letters s.rows row few finds h.0 in
    let q = numeral_value-decimal row.from (omega (arith, h.0.from)) in
    let r = numeral_value-decimal row.to (omega (arith, h.0.to)) in
    let a = finds row.letter.0 h.0.letter in
    let t : Said = record s { rows = s.rows ++ row ∷ [] } in
    let step : t ≡ more s (row_line s.letters row) = rw (q, r, a, o) (simp append-nil) in
    (rw (f, right), subst (λ (x : Said). RunsTo x (map (row_line s.letters) rows) (after_rows t rows)) step (rows_run t rows few finds o f h.1))

-- the steps of a process
abbrev pub steps_by_one : ℕ → List ℕ → List Step
steps_by_one process script = map (λ (a : ℕ). record { process = process; letter = a }) script
