-- A text of lines of words has these lines, and they have these words.
use Rattle.std.proofs.Common.{◌≡◌, ◌∙◌, ap, ℕ, ◌<◌, Bool, true, false, not, ◌&&◌, List, [], ◌∷◌, ◌++◌, length, map, refl, append_assoc, length-append, arith}
use Rattle.std.specs.Prelude.{◌==◌, nat_le}
use Rattle.std.specs.List.{list_all, filter, AllByRecursion}
use Rattle.std.proofs.lemmas.Bool.{and_parts}
use Rattle.std.proofs.lemmas.Bool.Decides.{nat_tests}
use Rattle.std.proofs.lemmas.List.{append-nil}
use Rattle.za_text.specs.Lines.{RawLine, lines_of, is_allowed}
use Rattle.za_text.specs.Words.{is_gap, pieces, words_of}
use Rattle.za_text.specs.Printed.{spaced, line, text_of}
use Rattle.za_text.specs.Names.{begins_with_digit, is_name, is_name_byte}
use Rattle.za_names.specs.Limits.{most_name_bytes}
use Rattle.za_lang.specs.declared.version.Version.{Version}
use Rattle.za_lang.specs.declared.version.Version.TheVariants.{One, Two}
use Rattle.za_lang.specs.Documents.{begins_comment, words_in}

-- a byte of a word
abbrev pub is_inner : ℕ → Bool
is_inner b = nat_le 33 b && nat_le b 126

-- a word that is read as it is printed
pub record CanPrint (w : List ℕ) : Type 0 where
  pub some : 0 < length w
  pub inner : list_all is_inner w ≡ true

-- a line with a word, which begins no comment, and whose words can be printed
abbrev pub IsLine : List (List ℕ) → Type 0
IsLine [] = ⊥
IsLine (w ∷ ws) = (begins_comment Two w ≡ false) × AllByRecursion CanPrint (w ∷ ws)

-- the bytes of a line before its line feed
abbrev pub line_text : List (List ℕ) → List ℕ
line_text [] = []
line_text (w ∷ ws) = w ++ spaced ws

no_gap : (b : ℕ) → is_inner b ≡ true → is_gap b ≡ false
no_gap b h = grind (arith, nat_tests)

-- a word at the front of a line
pieces_word : (w : List ℕ) (bs : List ℕ) → list_all is_inner w ≡ true → pieces (w ++ 32 ∷ bs) ≡ w ∷ pieces bs
pieces_word [] bs h = refl
pieces_word (b ∷ w) bs h =
    let parts = and_parts (is_inner b) (list_all is_inner w) h in
    let e = no_gap b parts.0 in
    rw e (rw (pieces_word w bs parts.1))

pieces_last : (w : List ℕ) → list_all is_inner w ≡ true → pieces w ≡ w ∷ []
pieces_last [] h = refl
pieces_last (b ∷ w) h =
    let parts = and_parts (is_inner b) (list_all is_inner w) h in
    let e = no_gap b parts.0 in
    rw e (rw (pieces_last w parts.1))

pieces_line : (w : List ℕ) (ws : List (List ℕ)) → AllByRecursion CanPrint (w ∷ ws) → pieces (w ++ spaced ws) ≡ w ∷ ws
pieces_line w [] h = rw (append-nil w) (pieces_last w h.0.inner)
pieces_line w (v ∷ ws) h = pieces_word w (v ++ spaced ws) h.0.inner ∙ ap (λ us. w ∷ us) (pieces_line v ws h.1)

abbrev filled : List ℕ → Bool
filled piece = not (length piece == 0)

filled_word : (w : List ℕ) → CanPrint w → filled w ≡ true
filled_word [] h = absurd (omega (arith, h.some))
filled_word (b ∷ w) h = grind (arith, nat_tests)

all_filled : (ws : List (List ℕ)) → AllByRecursion CanPrint ws → filter filled ws ≡ ws
all_filled [] h = refl
all_filled (w ∷ ws) h = let e = filled_word w h.0 in rw e (ap (λ us. w ∷ us) (all_filled ws h.1))

-- the words of a line of words
pub words_of_line : (ws : List (List ℕ)) → IsLine ws → words_of (line_text ws) ≡ ws
words_of_line [] h = absurd h
words_of_line (w ∷ ws) h = ap (filter filled) (pieces_line w ws h.1) ∙ all_filled (w ∷ ws) h.1

-- the bytes of a line of words
abbrev is_line_byte : ℕ → Bool
is_line_byte b = nat_le 32 b && nat_le b 126

line_byte : (b : ℕ) → is_inner b ≡ true → is_line_byte b ≡ true
line_byte b h = grind (arith, nat_tests)

word_bytes : (w : List ℕ) → list_all is_inner w ≡ true → list_all is_line_byte w ≡ true
word_bytes [] h = refl
word_bytes (b ∷ w) h =
    let parts = and_parts (is_inner b) (list_all is_inner w) h in
    let e = line_byte b parts.0 in
    rw e (word_bytes w parts.1)

all-append : (p : ℕ → Bool) (xs ys : List ℕ) → list_all p xs ≡ true → list_all p ys ≡ true → list_all p (xs ++ ys) ≡ true
all-append p [] ys h k = k
all-append p (x ∷ xs) ys h k =
    let parts = and_parts (p x) (list_all p xs) h in
    rw parts.0 (all-append p xs ys parts.1 k)

spaced_bytes : (ws : List (List ℕ)) → AllByRecursion CanPrint ws → list_all is_line_byte (spaced ws) ≡ true
spaced_bytes [] h = refl
spaced_bytes (w ∷ ws) h = all-append is_line_byte w (spaced ws) (word_bytes w h.0.inner) (spaced_bytes ws h.1)

line_bytes : (ws : List (List ℕ)) → IsLine ws → list_all is_line_byte (line_text ws) ≡ true
line_bytes [] h = absurd h
line_bytes (w ∷ ws) h = all-append is_line_byte w (spaced ws) (word_bytes w h.1.0.inner) (spaced_bytes ws h.1.1)

byte_feed : (b : ℕ) → is_line_byte b ≡ true → (b == 10) ≡ false
byte_feed b h = grind (arith, nat_tests)

byte_allowed : (b : ℕ) → is_line_byte b ≡ true → is_allowed b ≡ true
byte_allowed b h = grind (arith, nat_tests)

all_allowed : (bs : List ℕ) → list_all is_line_byte bs ≡ true → list_all is_allowed bs ≡ true
all_allowed [] h = refl
all_allowed (b ∷ bs) h =
    let parts = and_parts (is_line_byte b) (list_all is_line_byte bs) h in
    let e = byte_allowed b parts.0 in
    rw e (all_allowed bs parts.1)

pub line_allowed : (ws : List (List ℕ)) → IsLine ws → list_all is_allowed (line_text ws) ≡ true
line_allowed ws h = all_allowed (line_text ws) (line_bytes ws h)

line_front : (xs ys : List ℕ) → list_all is_line_byte xs ≡ true → lines_of (xs ++ 10 ∷ ys) ≡ record { text = xs; whole = true } ∷ lines_of ys
line_front [] ys h = refl
line_front (b ∷ xs) ys h =
    let parts = and_parts (is_line_byte b) (list_all is_line_byte xs) h in
    let e = byte_feed b parts.0 in
    rw e (rw (line_front xs ys parts.1))

abbrev pub printed_line : List (List ℕ) → RawLine
printed_line words = record { text = line_text words; whole = true }

line_is : (ws : List (List ℕ)) (rest : List ℕ) → line ws ++ rest ≡ line_text ws ++ 10 ∷ rest
line_is [] rest = refl
line_is (w ∷ ws) rest = simp append_assoc

-- the lines of a text of lines
pub lines_of_text : (wss : List (List (List ℕ))) → AllByRecursion IsLine wss → lines_of (text_of wss) ≡ map printed_line wss
lines_of_text [] h = refl
lines_of_text (ws ∷ wss) h =
    ap lines_of (line_is ws (text_of wss))
    ∙ line_front (line_text ws) (text_of wss) (line_bytes ws h.0)
    ∙ ap (λ ls. printed_line ws ∷ ls) (lines_of_text wss h.1)

no_comment : (v : Version) (w : List ℕ) → begins_comment Two w ≡ false → begins_comment v w ≡ false
no_comment One w h = refl
no_comment Two w h = h

-- the words of a line of words, in each version
pub words_in_line : (v : Version) (ws : List (List ℕ)) → IsLine ws → words_in v (printed_line ws) ≡ ws
words_in_line v [] h = absurd h
words_in_line v (w ∷ ws) h = let no = no_comment v w h.0 in rw (words_of_line (w ∷ ws) h, no) refl

-- names can be printed
name_inner : (b : ℕ) → is_name_byte b ≡ true → is_inner b ≡ true
name_inner b h = grind (arith, nat_tests)

names_inner : (bs : List ℕ) → list_all is_name_byte bs ≡ true → list_all is_inner bs ≡ true
names_inner [] h = refl
names_inner (b ∷ bs) h =
    let parts = and_parts (is_name_byte b) (list_all is_name_byte bs) h in
    let e = name_inner b parts.0 in
    rw e (names_inner bs parts.1)

pub name_word : (name : List ℕ) → is_name name ≡ true → CanPrint name
name_word [] h = absurd (cc)
name_word (b ∷ bs) h =
    let parts = and_parts (nat_le 1 (length (b ∷ bs)) && nat_le (length (b ∷ bs)) most_name_bytes && not (begins_with_digit (b ∷ bs)))
    (list_all is_name_byte (b ∷ bs)) h in
    record { some = omega arith; inner = names_inner (b ∷ bs) parts.1 }

-- a name, a star and a word
pub starred_word : (name word : List ℕ) → CanPrint name → CanPrint word → CanPrint (name ++ 42 ∷ word)
starred_word name word h k =
    let some = h.some in
    let long = length-append name (42 ∷ word) in
    record { some = omega arith; inner = all-append is_inner name (42 ∷ word) h.inner k.inner }
