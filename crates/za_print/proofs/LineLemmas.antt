-- The lines of a job, one more at a time.
use Rattle.std.proofs.Common.{◌≡◌, ℕ, zero, suc, ◌+◌, ◌<◌, take, length, add-one, arith, codes, List, [], ◌∷◌, ◌++◌, map, ap, sym, ◌∙◌, refl, append_assoc}
use Rattle.std.proofs.Common.{Option, Some, None}
use Rattle.std.specs.List.{cons_option, filter_map, range_with_len}
use Rattle.std.specs.Option.{option_to_list}
use Rattle.std.proofs.lemmas.List.{append-nil, map-append}
use Rattle.std.proofs.lemmas.List.Concat.{flat_map-append}
use Rattle.za_alpha.specs.Procs.{members}
use Rattle.za_alpha.specs.Alphabet.{NamedLetter, name_at, procs_at}
use Rattle.za_print.specs.Printed.{letter_line}
use Rattle.za_alpha.proofs.Members.{range-below-more}
use Rattle.za_text.specs.ProcessNames.{name_of}
use Rattle.za_text.specs.Printed.{line, text_of}

take-suc-letters : (ls : List NamedLetter) (a : ℕ) → a < length ls → take (suc a) ls ≡ take a ls ++ record { name = name_at ls a; loc = procs_at ls a } ∷ []
take-suc-letters [] a h = absurd (omega arith)
take-suc-letters (l ∷ ls) zero h = refl
take-suc-letters (l ∷ ls) (suc a) h = ap (λ xs. l ∷ xs) (take-suc-letters ls a (omega arith))

take-letters : (ls : List NamedLetter) (a : ℕ) → a < length ls → take (a + 1) ls ≡ take a ls ++ record { name = name_at ls a; loc = procs_at ls a } ∷ []
take-letters ls a h = rw add-one (take-suc-letters ls a h)

-- the lines of letters, and of one letter more
pub letters-more : (names : List (List ℕ)) (ls : List NamedLetter) (a : ℕ) → a < length ls →
    text_of (map (letter_line names) (take (a + 1) ls)) ≡ text_of (map (letter_line names) (take a ls))
    ++ line (codes "letter" ∷ name_at ls a ∷ map (name_of names) (members (procs_at ls a)))
letters-more names ls a h =
    let at : NamedLetter = record { name = name_at ls a; loc = procs_at ls a } in
    ap (λ xs. text_of (map (letter_line names) xs)) (take-letters ls a h) ∙ ap text_of (map-append (letter_line names) (take a ls) (at ∷ []))
    ∙ flat_map-append line (map (letter_line names) (take a ls)) (letter_line names at ∷ [])
    ∙ ap (λ ys. text_of (map (letter_line names) (take a ls)) ++ ys) (append-nil (line (letter_line names at)))

glued : (a b c d e f g h i x0 x1 x2 x3 x4 x5 x6 x7 x8 : List ℕ) → x0 ≡ a → x1 ≡ x0 ++ b → x2 ≡ x1 ++ c → x3 ≡ x2 ++ d → x4 ≡ x3 ++ e → x5 ≡ x4 ++ f → x6 ≡ x5
    ++ g → x7 ≡ x6 ++ h → x8 ≡ x7 ++ i →
    x8 ≡ a ++ (b ++ (c ++ (d ++ (e ++ (f ++ (g ++ (h ++ i)))))))
glued a b c d e f g h i x0 x1 x2 x3 x4 x5 x6 x7 x8 e0 e1 e2 e3 e4 e5 e6 e7 e8 = rw (e8, e7, e6, e5, e4, e3, e2, e1, e0) (simp append_assoc)

-- a job's text from its pieces
pub nine_pieces : (l0 l1 l3 l4 l5 l8 : List (List ℕ)) (t2 t6 t7 : List (List (List ℕ))) (x0 x1 x2 x3 x4 x5 x6 x7 x8 : List ℕ) →
    x0 ≡ line l0 → x1 ≡ x0 ++ line l1 → x2 ≡ x1 ++ text_of t2 → x3 ≡ x2 ++ line l3 → x4 ≡ x3 ++ line l4 → x5 ≡ x4 ++ line l5 → x6 ≡ x5 ++ text_of t6 → x7 ≡ x6
    ++ text_of t7 → x8 ≡ x7 ++ line l8 →
    x8 ≡ text_of (l0 ∷ l1 ∷ (t2 ++ (l3 ∷ l4 ∷ l5 ∷ (t6 ++ (t7 ++ l8 ∷ [])))))
nine_pieces l0 l1 l3 l4 l5 l8 t2 t6 t7 x0 x1 x2 x3 x4 x5 x6 x7 x8 e0 e1 e2 e3 e4 e5 e6 e7 e8 =
    let last : text_of (t7 ++ l8 ∷ []) ≡ text_of t7 ++ line l8 = flat_map-append line t7 (l8 ∷ []) ∙ ap (λ ys. text_of t7 ++ ys) (append-nil (line l8)) in
    let rows : text_of (t6 ++ (t7 ++ l8 ∷ [])) ≡ text_of t6 ++ (text_of t7 ++ line l8) = flat_map-append line t6 (t7 ++ l8 ∷ [])
    ∙ ap (λ ys. text_of t6 ++ ys) last in
    let all : text_of (t2 ++ (l3 ∷ l4 ∷ l5 ∷ (t6 ++ (t7 ++ l8 ∷ [])))) ≡ text_of t2
    ++ (line l3 ++ (line l4 ++ (line l5 ++ (text_of t6 ++ (text_of t7 ++ line l8))))) =
    flat_map-append line t2 (l3 ∷ l4 ∷ l5 ∷ (t6 ++ (t7 ++ l8 ∷ []))) ∙ ap (λ ys. text_of t2 ++ (line l3 ++ (line l4 ++ (line l5 ++ ys)))) rows in
    glued (line l0) (line l1) (text_of t2) (line l3) (line l4) (line l5) (text_of t6) (text_of t7) (line l8) x0 x1 x2 x3 x4 x5 x6 x7 x8 e0 e1 e2 e3 e4 e5 e6 e7
    e8
    ∙ sym (ap (λ ys. line l0 ++ (line l1 ++ ys)) all)

last_some : {X : Type 0} (o : Option X) → cons_option o [] ≡ option_to_list o
last_some None = refl
last_some (Some x) = refl

cons-append : {X : Type 0} (o : Option X) (xs ys : List X) → cons_option o (xs ++ ys) ≡ cons_option o xs ++ ys
cons-append None xs ys = refl
cons-append (Some x) xs ys = refl

filter_map-one : {X : Type 0} (h : ℕ → Option X) (ns : List ℕ) (n : ℕ) → filter_map h (ns ++ n ∷ []) ≡ filter_map h ns ++ option_to_list (h n)
filter_map-one h [] n = last_some (h n)
filter_map-one h (m ∷ ns) n = ap (cons_option (h m)) (filter_map-one h ns n) ∙ cons-append (h m) (filter_map h ns) (option_to_list (h n))

-- the lines of what one more number gives, if it gives anything
pub text_of-some-more : {X : Type 0} (f : X → List (List ℕ)) (h : ℕ → Option X) (n : ℕ) →
    text_of (map f (filter_map h (range_with_len 0 (n + 1)))) ≡ text_of (map f (filter_map h (range_with_len 0 n))) ++ text_of (map f (option_to_list (h n)))
text_of-some-more f h n =
    ap (λ ns. text_of (map f (filter_map h ns))) (range-below-more n) ∙ ap (λ xs. text_of (map f xs)) (filter_map-one h (range_with_len 0 n) n)
    ∙ ap text_of (map-append f (filter_map h (range_with_len 0 n)) (option_to_list (h n)))
    ∙ flat_map-append line (map f (filter_map h (range_with_len 0 n))) (map f (option_to_list (h n)))
