-- Where a document that isn't refused ends: at its first line that begins with `end`, after which all lines are blank.
use Rattle.std.proofs.Common.{◌≡◌, ◌∙◌, ap, sym, subst, ℕ, ◌+◌, suc, Bool, true, false, not, List, [], ◌∷◌, ◌++◌, length}
use Rattle.std.proofs.Common.{take, drop, refl, append_assoc, inl, inr, Option, Some, None, arith}
use Rattle.std.specs.Prelude.{◌==◌, codes, if◌then◌else◌}
use Rattle.std.specs.List.{list_all, AllByRecursion}
use Rattle.std.specs.Option.{option_or, option_map}
use Rattle.std.specs.Str.{bytes_eq}
use Rattle.std.proofs.lemmas.Bool.{and_parts, cases_Bool}
use Rattle.std.proofs.lemmas.Bool.Decides.{nat_tests}
use Rattle.std.proofs.lemmas.List.{append-nil}
use Rattle.std.proofs.lemmas.Slice.Eq.{bytes_eq-Decides}
use Rattle.za_text.specs.Lines.{RawLine, lines_of, is_allowed}
use Rattle.za_text.specs.Words.{words_of}
use Rattle.za_text.specs.Divided.{first_is, begins_with, bytes_of, bytes_of_lines, place_in, lines_through, lines_after}
use Rattle.za_text.specs.declared.kind.Kind.{Kind}
use Rattle.za_text.specs.declared.kind.Kind.TheVariants.{Cut, BadByte}
use Rattle.za_text.specs.declared.kind.TextFault.{TextFault}
use Rattle.za_lang.specs.declared.version.Version.{Version}
use Rattle.za_lang.specs.declared.version.Version.TheVariants.{One, Two}
use Rattle.za_lang.specs.declared.order.Head.{Head}
use Rattle.za_lang.specs.declared.order.Head.TheVariants.{Zla, Processes, Letter, States, Start, Accept, Row, Script, End, Other}
use Rattle.za_lang.specs.declared.order.Place.{Place}
use Rattle.za_lang.specs.declared.order.Place.TheVariants.{AtHeader, AtProcesses, AtFirstLetter, AtLetters, AtStart, AtAccept, AtRows, AtScripts, AfterEnd}
use Rattle.za_lang.specs.Order.{head_of, next_place, order_fault}
use Rattle.za_lang.specs.Documents.{Said, said, version_by, version_of, begins_comment, but_comments, words_in, own_fault, words_fault, line_fault, next_fault}
use Rattle.za_lang.specs.Documents.{end_fault, faults_from}
use Rattle.za_lang.specs.Gathering.{more}
use Rattle.za_lang.proofs.Saying.{said_none, said_version, said_more}

-- whether the first word of a line is `end`
abbrev pub is_end_line : RawLine → Bool
is_end_line l = begins_with (codes "end") l

-- ---- lines, and the bytes of lines

-- a line that passes the first two tests
abbrev pub IsFine : RawLine → Type 0
IsFine l = (l.whole ≡ true) × (list_all is_allowed l.text ≡ true)

no_feed : (b : ℕ) → is_allowed b ≡ true → (b == 10) ≡ false
no_feed b h = grind (arith, nat_tests)

line_again : (text rest : List ℕ) → list_all is_allowed text ≡ true → lines_of (text ++ 10 ∷ rest) ≡ record { text = text; whole = true } ∷ lines_of rest
line_again [] rest h = refl
line_again (b ∷ bs) rest h =
    let parts = and_parts (is_allowed b) (list_all is_allowed bs) h in
    let later = line_again bs rest parts.1 in
    let other = no_feed b parts.0 in
    rw (other, later) refl

-- the lines of the bytes of such lines are these lines, and then those of the rest
pub lines_again : (ls : List RawLine) (rest : List ℕ) → AllByRecursion IsFine ls → lines_of (bytes_of_lines ls ++ rest) ≡ ls ++ lines_of rest
lines_again [] rest h = refl
lines_again (l ∷ ls) rest h =
    let tail = bytes_of_lines ls in
    let feed : bytes_of l ≡ l.text ++ 10 ∷ [] = ap (λ w. l.text ++ (if w then 10 ∷ [] else [])) h.0.0 in
    let bytes = ap (λ b. (b ++ tail) ++ rest) feed ∙ append_assoc (l.text ++ 10 ∷ []) tail rest ∙ append_assoc l.text (10 ∷ []) (tail ++ rest) in
    ap lines_of bytes ∙ line_again l.text (tail ++ rest) h.0.1 ∙ ap (λ w. record { text = l.text; whole = w } ∷ lines_of (tail ++ rest)) (sym h.0.0)
    ∙ ap (λ ks. l ∷ ks) (lines_again ls rest h.1)

-- ---- where lines are divided

module _ (test : RawLine → Bool) (l : RawLine) (ls : List RawLine) where
  through-here : test l ≡ true → lines_through test (l ∷ ls) ≡ l ∷ []
  through-here t = rw t refl

  after-here : test l ≡ true → lines_after test (l ∷ ls) ≡ ls
  after-here t = rw t refl

  one-later : test l ≡ false → place_in test (l ∷ ls) + 1 ≡ suc (place_in test ls + 1)
  one-later f = let e : place_in test (l ∷ ls) ≡ 1 + place_in test ls = rw f refl in omega arith

  through-later : test l ≡ false → lines_through test (l ∷ ls) ≡ l ∷ lines_through test ls
  through-later f = ap (λ n. take n (l ∷ ls)) (one-later f)

  after-later : test l ≡ false → lines_after test (l ∷ ls) ≡ lines_after test ls
  after-later f = ap (λ n. drop n (l ∷ ls)) (one-later f)

-- ---- the tests of a line

three_tests : (w a : Bool) (k : Option Kind) → (if not w then Some Cut else (if not a then Some BadByte else k)) ≡ None → (w ≡ true) × (a ≡ true) × (k ≡ None)
three_tests true true k h = (refl, refl, h)
three_tests true false k h = absurd (cc)
three_tests false a k h = absurd (cc)

line_right : (s : Said) (l : RawLine) → line_fault s l ≡ None → IsFine l × (words_fault s (words_in s.naming.version l) ≡ None)
unfolding line_fault
line_right s l h =
    let t = three_tests l.whole (list_all is_allowed l.text) (words_fault s (words_in s.naming.version l)) h in ((t.0, t.1), t.2)

first_right : (o : Option Kind) (n : ℕ) (later : Option TextFault) → option_or (option_map (next_fault n) o) later ≡ None → (o ≡ None) × (later ≡ None)
first_right None n later h = (refl, h)
first_right (Some k) n later h = absurd (cc)

-- a document that isn't refused comes to its end
end_is : (p : Place) (n : ℕ) → end_fault p n ≡ None → p ≡ AfterEnd
end_is AfterEnd n h = refl
end_is AtHeader n h = absurd (cc)
end_is AtProcesses n h = absurd (cc)
end_is AtFirstLetter n h = absurd (cc)
end_is AtLetters n h = absurd (cc)
end_is AtStart n h = absurd (cc)
end_is AtAccept n h = absurd (cc)
end_is AtRows n h = absurd (cc)
end_is AtScripts n h = absurd (cc)

-- ---- the end line

end_words : (v : Version) (ws : List (List ℕ)) → first_is (codes "end") ws ≡ true →
    (rest : List (List ℕ)) × (but_comments v ws ≡ codes "end" ∷ rest) × (ws ≡ codes "end" ∷ rest)
end_words v [] t = absurd (cc)
end_words v (w ∷ ws) t =
    let e : w ≡ codes "end" = (bytes_eq-Decides w (codes "end")).0 t in
    (ws, ap (λ x. but_comments v (x ∷ ws)) e ∙ kept v, ap (λ x. x ∷ ws) e)
  where
    kept : (v : Version) → but_comments v (codes "end" ∷ ws) ≡ codes "end" ∷ ws
    kept One = refl
    kept Two = refl

-- of the first words `end` alone says that all is read
by_tests : Bool → Bool → Bool → Bool → Bool → Bool → Bool → Bool → Bool → Head
by_tests a b c d e f g h i =
    if a then Zla else (if b then Processes else (if c then Letter else (if d then States else (if e then Start
    else (if f then Accept else (if g then Row else (if h then Script else (if i then End else Other))))))))

not_end : (a b c d e f g h : Bool) → by_tests a b c d e f g h false ≡ End → ⊥
unfolding by_tests
not_end true b c d e f g h k = absurd (cc)
not_end false true c d e f g h k = absurd (cc)
not_end false false true d e f g h k = absurd (cc)
not_end false false false true e f g h k = absurd (cc)
not_end false false false false true f g h k = absurd (cc)
not_end false false false false false true g h k = absurd (cc)
not_end false false false false false false true h k = absurd (cc)
not_end false false false false false false false true k = absurd (cc)
not_end false false false false false false false false k = absurd (cc)

other_head : (w : List ℕ) → bytes_eq w (codes "end") ≡ false → head_of w ≡ End → ⊥
unfolding by_tests
other_head w f h =
    let is = λ (word : List ℕ). bytes_eq w word in
    not_end (is (codes "zla")) (is (codes "processes")) (is (codes "letter")) (is (codes "states")) (is (codes "start")) (is (codes "accept"))
    (is (codes "row")) (is (codes "script"))
    (subst (λ i. by_tests (is (codes "zla")) (is (codes "processes")) (is (codes "letter")) (is (codes "states")) (is (codes "start")) (is (codes "accept"))
    (is (codes "row")) (is (codes "script")) i ≡ End) f h)

next_other : (p : Place) (h : Head) → (h ≡ End → ⊥) → (p ≡ AfterEnd → ⊥) → next_place p h ≡ AfterEnd → ⊥
next_other p Zla other open_before e = absurd (cc)
next_other p Processes other open_before e = absurd (cc)
next_other p Letter other open_before e = absurd (cc)
next_other p States other open_before e = absurd (cc)
next_other p Start other open_before e = absurd (cc)
next_other p Accept other open_before e = absurd (cc)
next_other p Row other open_before e = absurd (cc)
next_other p Script other open_before e = absurd (cc)
next_other p End other open_before e = absurd (other refl)
next_other p Other other open_before e = absurd (open_before e)

-- so after any other line all isn't read, where it wasn't before
still_open : (v : Version) (s : Said) (ws : List (List ℕ)) → first_is (codes "end") ws ≡ false → (s.place ≡ AfterEnd → ⊥) →
    (more s (but_comments v ws)).place ≡ AfterEnd → ⊥
still_open v s [] f open_before e = open_before e
still_open v s (w ∷ ws) f open_before e =
    elim (cases_Bool (begins_comment v w)) [
      | inl t ↦ open_before (subst (λ b. (more s (if b then [] else w ∷ ws)).place ≡ AfterEnd) t e)
      | inr g ↦ next_other s.place (head_of w) (other_head w f) open_before (subst (λ b. (more s (if b then [] else w ∷ ws)).place ≡ AfterEnd) g e)
    ]

trailing : (s : Said) (h : Head) (ws : List (List ℕ)) → option_or (order_fault AfterEnd h) (own_fault s h ws) ≡ None → ⊥
trailing s h ws e = absurd (cc)

-- ---- a document, by its end line

module _ (v : Version) where
  -- a line that says nothing
  abbrev pub IsBlank : RawLine → Type 0
  IsBlank l = IsFine l × (words_in v l ≡ [])

  no_words : (s : Said) (words : List (List ℕ)) → s.place ≡ AfterEnd → words_fault s words ≡ None → words ≡ []
  no_words s [] e h = refl
  no_words s (w ∷ ws) e h = absurd (trailing s (head_of w) ws (subst (λ p. option_or (order_fault p (head_of w)) (own_fault s (head_of w) ws) ≡ None) e h))

  -- the line after others, by the tests that it passes
  right_after : (before : List RawLine) (l : RawLine) → line_fault (said v before) l ≡ None → IsFine l × (words_fault (said v before) (words_in v l) ≡ None)
  right_after before l h =
      let r = line_right (said v before) l h in (r.0, subst (λ u. words_fault (said v before) (words_in u l) ≡ None) (said_version v before) r.1)

  -- after the end line all lines are blank
  blank_after : (before ls : List RawLine) → (said v before).place ≡ AfterEnd → faults_from v before ls ≡ None → AllByRecursion IsBlank ls
  blank_after before [] place h = tt
  blank_after before (l ∷ ls) place h =
      let p = first_right (line_fault (said v before) l) (length before) (faults_from v (before ++ l ∷ []) ls) h in
      let r = right_after before l p.0 in
      let none = no_words (said v before) (words_in v l) place r.1 in
      let same : (said v (before ++ l ∷ [])).place ≡ AfterEnd = ap (λ (s : Said). s.place) (said_more v before l ∙ ap (more (said v before)) none) ∙ place in
      ((r.0, none), blank_after (before ++ l ∷ []) ls same p.1)

  -- lines through the first end line, and after it, where these come after others
  pub record AreDivided (before ls : List RawLine) : Type 0 where
    pub front : List RawLine
    pub back : List RawLine
    pub split : ls ≡ front ++ back
    pub fine : AllByRecursion IsFine front
    pub blank : AllByRecursion IsBlank back
    pub through : (rest : List RawLine) → lines_through is_end_line (front ++ rest) ≡ front
    pub after : (rest : List RawLine) → lines_after is_end_line (front ++ rest) ≡ rest
    pub right : faults_from v before front ≡ None
    pub version : (rest : List RawLine) → version_of (front ++ rest) ≡ version_of front

  right_first : (before front : List RawLine) (l : RawLine) → line_fault (said v before) l ≡ None → faults_from v (before ++ l ∷ []) front ≡ None →
      faults_from v before (l ∷ front) ≡ None
  right_first before front l here later = rw here later

  right_last : (before : List RawLine) (l : RawLine) → line_fault (said v before) l ≡ None → (said v (before ++ l ∷ [])).place ≡ AfterEnd →
      faults_from v before (l ∷ []) ≡ None
  right_last before l here there = rw (here, there) refl

  pub divided : (before ls : List RawLine) → ((said v before).place ≡ AfterEnd → ⊥) → faults_from v before ls ≡ None → AreDivided before ls
  divided before [] open_before h = absurd (open_before (end_is (said v before).place (length before) h))
  divided before (l ∷ ls) open_before h =
      let p = first_right (line_fault (said v before) l) (length before) (faults_from v (before ++ l ∷ []) ls) h in
      let r = right_after before l p.0 in
      elim (cases_Bool (is_end_line l)) [
        | inl t ↦
            let words = end_words v (words_of l.text) t in
            let there : (said v (before ++ l ∷ [])).place ≡ AfterEnd = ap (λ (s : Said). s.place) (said_more v before l ∙ ap (more (said v before)) words.1) in
            record {
              front = l ∷ [];
              back = ls;
              split = refl;
              fine = (r.0, tt);
              blank = blank_after (before ++ l ∷ []) ls there p.1;
              through = λ rest. through-here is_end_line l rest t;
              after = λ rest. after-here is_end_line l rest t;
              right = right_last before l p.0 there;
              version = λ rest. ap (version_by (version_of rest)) words.2 ∙ sym (ap (version_by One) words.2);
            }
        | inr f ↦
            let open_still = λ (e : (said v (before ++ l ∷ [])).place ≡ AfterEnd).
            still_open v (said v before) (words_of l.text) f open_before (sym (ap (λ (s : Said). s.place) (said_more v before l)) ∙ e) in
            let later = divided (before ++ l ∷ []) ls open_still p.1 in
            record {
              front = l ∷ later.front;
              back = later.back;
              split = ap (λ ks. l ∷ ks) later.split;
              fine = (r.0, later.fine);
              blank = later.blank;
              through = λ rest. through-later is_end_line l (later.front ++ rest) f ∙ ap (λ ks. l ∷ ks) (later.through rest);
              after = λ rest. after-later is_end_line l (later.front ++ rest) f ∙ later.after rest;
              right = right_first before later.front l p.0 later.right;
              version = λ rest. ap (λ u. version_by u (words_of l.text)) (later.version rest);
            }
      ]

  pub not_yet : (said v []).place ≡ AfterEnd → ⊥
  not_yet e = let first : AtHeader ≡ AfterEnd = sym (ap (λ (s : Said). s.place) (said_none v)) ∙ e in cc

  -- blank lines say nothing
  pub said_blank : (before ls : List RawLine) → AllByRecursion IsBlank ls → said v (before ++ ls) ≡ said v before
  said_blank before [] h = ap (said v) (append-nil before)
  said_blank before (l ∷ ls) h =
      ap (said v) (sym (append_assoc before (l ∷ []) ls)) ∙ said_blank (before ++ l ∷ []) ls h.1 ∙ said_more v before l ∙ ap (more (said v before)) h.0.1

  pub blank_fine : (ls : List RawLine) → AllByRecursion IsBlank ls → AllByRecursion IsFine ls
  blank_fine [] h = tt
  blank_fine (l ∷ ls) h = (h.0.0, blank_fine ls h.1)

pub both_fine : (xs ys : List RawLine) → AllByRecursion IsFine xs → AllByRecursion IsFine ys → AllByRecursion IsFine (xs ++ ys)
both_fine [] ys h k = k
both_fine (x ∷ xs) ys h k = (h.0, both_fine xs ys h.1 k)
