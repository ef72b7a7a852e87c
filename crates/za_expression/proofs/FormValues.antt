-- Several plain parts: paths stay in one part.
use Rattle.std.proofs.Common.{◌≡◌, ℕ, zero, suc, ◌+◌, ◌≤◌, Bool, true, not, ◌&&◌, ◌⊎◌, inl, inr, List, [], ◌∷◌, map, sym, ap, subst, ◌∙◌, arith}
use Rattle.std.specs.List.{list_any}
use Rattle.std.proofs.lemmas.Bool.{or_cases, or_left, or_right, cases_Bool, false_from_ne_true}
use Rattle.za_expression.specs.Plain.{Plain, One, Occurrence, Sequence, Or, Star, matches}
use Rattle.za_alpha.specs.Words.{has}
use Rattle.za_expression.specs.Forms.{Form, Part, And, Not, is_meant}
use Rattle.za_expression.specs.Values.{HasIn}
use Rattle.za_expression.specs.Following.{leads, ends, following_value, goes, accepts}
use Rattle.za_expression.specs.Private.Ordered.{Within, Spans}
use Rattle.za_expression.proofs.Follow.{Lies, apart, within_order, follows_lie, last_lies}
use Rattle.za_expression.proofs.Rests.{leads_lies}
use Rattle.za_expression.proofs.Values.{Path, any_from, any_to}
use Rattle.za_expression.proofs.Part.{last_step, in_from_path, path_from_in, ends_to, ends_from, accepts_to, accepts_from}

pub spans_order : (low : ℕ) (f : Form) (high : ℕ) → Spans low f high → low ≤ high
spans_order low (Part e) high h = within_order low e high h
spans_order low (And a b) high h = let x = spans_order low a h.0 h.1 in let y = spans_order h.0 b high h.2 in omega arith
spans_order low (Not a) high h = spans_order low a high h

wider_left : (low m high p : ℕ) → m ≤ high → Lies low p m → Lies low p high
wider_left low m high p h l = let a = l.from in let b = l.below in record { from = omega arith; below = omega arith }

wider_right : (low m high p : ℕ) → low ≤ m → Lies m p high → Lies low p high
wider_right low m high p h l = let a = l.from in let b = l.below in record { from = omega arith; below = omega arith }

pub goes_lies : (low : ℕ) (f : Form) (high p q : ℕ) → Spans low f high → goes f p q ≡ true → Lies low q high
goes_lies low (Part e) high p q s h = leads_lies low e high p q s h
goes_lies low (And a b) high p q s h =
    elim (or_cases (goes a p q) (goes b p q) h) [
      | inl l ↦ wider_left low s.0 high q (spans_order s.0 b high s.2) (goes_lies low a s.0 p q s.1 l)
      | inr r ↦ wider_right low s.0 high q (spans_order low a s.0 s.1) (goes_lies s.0 b high p q s.2 r)
    ]
goes_lies low (Not a) high p q s h = goes_lies low a high p q s h

pub goes_lies_from : (low : ℕ) (f : Form) (high p q : ℕ) → 1 ≤ p → Spans low f high → goes f p q ≡ true → Lies low p high
goes_lies_from low (Part e) high zero q one s h = absurd (omega arith)
goes_lies_from low (Part e) high (suc p) q one s h = (follows_lie low e high (suc p) q s h).0
goes_lies_from low (And a b) high p q one s h =
    elim (or_cases (goes a p q) (goes b p q) h) [
      | inl l ↦ wider_left low s.0 high p (spans_order s.0 b high s.2) (goes_lies_from low a s.0 p q one s.1 l)
      | inr r ↦ wider_right low s.0 high p (spans_order low a s.0 s.1) (goes_lies_from s.0 b high p q one s.2 r)
    ]
goes_lies_from low (Not a) high p q one s h = goes_lies_from low a high p q one s h

-- a path stays a path where more steps are allowed
pub path_more : (g h : ℕ → ℕ → Bool) → ((p q : ℕ) → g p q ≡ true → h p q ≡ true) → (n s : ℕ) (l : List ℕ) (p : ℕ) → Path g n s l p → Path h n s l p
path_more g h f n s [] p k = k
path_more g h f n s (q ∷ l) p k = (f s q k.0, k.1, path_more g h f n q l p k.2)

-- from a place of one side it stays there
pub stays_left : (low m high : ℕ) (a b : Form) (n s : ℕ) (l : List ℕ) (p : ℕ) → 1 ≤ low → Spans low a m → Spans m b high → Lies low s m →
    Path (goes (And a b)) n s l p → Path (goes a) n s l p
stays_left low m high a b n s [] p one sa sb here k = k
stays_left low m high a b n s (q ∷ l) p one sa sb here k =
    elim (or_cases (goes a s q) (goes b s q) k.0) [
      | inl x ↦ (x, k.1, stays_left low m high a b n q l p one sa sb (goes_lies low a m s q sa x) k.2)
      | inr x ↦ absurd (let f = here.from in apart low m high s here (goes_lies_from m b high s q (omega arith) sb x))
    ]

pub stays_right : (low m high : ℕ) (a b : Form) (n s : ℕ) (l : List ℕ) (p : ℕ) → 1 ≤ low → Spans low a m → Spans m b high → Lies m s high →
    Path (goes (And a b)) n s l p → Path (goes b) n s l p
stays_right low m high a b n s [] p one sa sb here k = k
stays_right low m high a b n s (q ∷ l) p one sa sb here k =
    elim (or_cases (goes a s q) (goes b s q) k.0) [
      | inr x ↦ (x, k.1, stays_right low m high a b n q l p one sa sb (goes_lies m b high s q sb x) k.2)
      | inl x ↦ absurd (let f = here.from in let o = spans_order low a m sa in apart low m high s (goes_lies_from low a m s q (omega arith) sa x) here)
    ]

-- a path from the start is in one side
pub one_side : (low m high : ℕ) (a b : Form) (n : ℕ) (q : ℕ) (l : List ℕ) (p : ℕ) → 1 ≤ low → Spans low a m → Spans m b high →
    Path (goes (And a b)) n 0 (q ∷ l) p → Path (goes a) n 0 (q ∷ l) p ⊎ Path (goes b) n 0 (q ∷ l) p
one_side low m high a b n q l p one sa sb k =
    elim (or_cases (goes a 0 q) (goes b 0 q) k.0) [
      | inl x ↦ inl (x, k.1, stays_left low m high a b n q l p one sa sb (goes_lies low a m 0 q sa x) k.2)
      | inr x ↦ inr (x, k.1, stays_right low m high a b n q l p one sa sb (goes_lies m b high 0 q sb x) k.2)
    ]

pub path_lies : (low : ℕ) (f : Form) (high n s q : ℕ) (l : List ℕ) (p : ℕ) → Spans low f high → Path (goes f) n s (q ∷ l) p → Lies low p high
path_lies low f high n s q l p sf k = let z = last_step (goes f) n s q l p k in goes_lies low f high z.previous p sf z.leads_here

-- within from 1 to n
pub within_wider : (low low2 : ℕ) (e : Plain) (high high2 : ℕ) → low2 ≤ low → high ≤ high2 → Within low e high → Within low2 e high2
within_wider low low2 One high high2 a b h = omega arith
within_wider low low2 (Occurrence p) high high2 a b h = let x = h.0 in let y = h.1 in (omega arith, omega arith)
within_wider low low2 (Sequence c d) high high2 a b h =
    (h.0, within_wider low low2 c h.0 h.0 a (omega arith) h.1, within_wider h.0 h.0 d high high2 (omega arith) b h.2)
within_wider low low2 (Or c d) high high2 a b h =
    (h.0, within_wider low low2 c h.0 h.0 a (omega arith) h.1, within_wider h.0 h.0 d high high2 (omega arith) b h.2)
within_wider low low2 (Star c) high high2 a b h = within_wider low low2 c high high2 a b h

-- the value of a nonempty word
pub has_from_path : (letter : ℕ → ℕ) (low : ℕ) (f : Form) (high n q : ℕ) (l : List ℕ) (p : ℕ) → 1 ≤ low → high ≤ 1 + n → Spans low f high →
    Path (goes f) n 0 (q ∷ l) p → HasIn letter f (map letter (q ∷ l)) p
has_from_path letter low (Part e) high n q l p one fits s k = in_from_path letter e n q l p (within_wider low 1 e high (1 + n) one fits s) k
has_from_path letter low (And a b) high n q l p one fits s k =
    let oa = spans_order low a s.0 s.1 in
    let ob = spans_order s.0 b high s.2 in
    elim (one_side low s.0 high a b n q l p one s.1 s.2 k) [
      | inl x ↦ inl (has_from_path letter low a s.0 n q l p one (omega arith) s.1 x)
      | inr x ↦ inr (has_from_path letter s.0 b high n q l p (omega arith) fits s.2 x)
    ]
has_from_path letter low (Not a) high n q l p one fits s k = has_from_path letter low a high n q l p one fits s k

pub path_from_has : (letter : ℕ → ℕ) (low : ℕ) (f : Form) (high n : ℕ) (u : List ℕ) (p : ℕ) → 1 ≤ low → high ≤ 1 + n → Spans low f high → HasIn letter f u p →
    (l : List ℕ) × (map letter l ≡ u) × Path (goes f) n 0 l p
path_from_has letter low (Part e) high n u p one fits s h = path_from_in letter e n u p (within_wider low 1 e high (1 + n) one fits s) h
path_from_has letter low (And a b) high n u p one fits s (inl h) =
    let oa = spans_order low a s.0 s.1 in
    let ob = spans_order s.0 b high s.2 in
    let k = path_from_has letter low a s.0 n u p one (omega arith) s.1 h in
    (k.0, k.1, path_more (goes a) (goes (And a b)) (λ x y z. or_left (goes a x y) (goes b x y) z) n 0 k.0 p k.2)
path_from_has letter low (And a b) high n u p one fits s (inr h) =
    let oa = spans_order low a s.0 s.1 in
    let k = path_from_has letter s.0 b high n u p (omega arith) fits s.2 h in
    (k.0, k.1, path_more (goes b) (goes (And a b)) (λ x y z. or_right (goes a x y) (goes b x y) z) n 0 k.0 p k.2)
path_from_has letter low (Not a) high n u p one fits s h = path_from_has letter low a high n u p one fits s h

pub value_to : (letter : ℕ → ℕ) (f : Form) (n a : ℕ) (u : List ℕ) (p : ℕ) → Spans 1 f (1 + n) → has (following_value (goes f) letter n (a ∷ u)) p ≡ true →
    HasIn letter f (a ∷ u) p
value_to letter f n a u p s h =
    let k = ends_to (goes f) letter n (a ∷ u) p h in
    elim k.0 as (λ l. map letter l ≡ a ∷ u → Path (goes f) n 0 l p → HasIn letter f (a ∷ u) p) [
      | [] ↦ λ x y. absurd (let z = x in cc)
      | q ∷ l ↦ λ x y. subst (λ z. HasIn letter f z p) x (has_from_path letter 1 f (1 + n) n q l p (omega arith) (omega arith) s y)
    ] k.1 k.2

pub value_from : (letter : ℕ → ℕ) (f : Form) (n : ℕ) (u : List ℕ) (p : ℕ) → Spans 1 f (1 + n) → HasIn letter f u p →
    has (following_value (goes f) letter n u) p ≡ true
value_from letter f n u p s h =
    let k = path_from_has letter 1 f (1 + n) n u p (omega arith) (omega arith) s h in
    ends_from (goes f) letter n u k.0 p k.1 k.2

-- g's paths that end in f, from low on and below high, are f's, and f's are g's
pub record Restricts (g f : Form) (low high n : ℕ) : Type 0 where
  pub inside : (q : ℕ) (l : List ℕ) (p : ℕ) → Lies low p high → Path (goes g) n 0 (q ∷ l) p → Path (goes f) n 0 (q ∷ l) p
  pub outside : (p q : ℕ) → goes f p q ≡ true → goes g p q ≡ true

restricts_left : (g a b : Form) (low m high n : ℕ) → 1 ≤ low → Spans low a m → Spans m b high → Restricts g (And a b) low high n → Restricts g a low m n
restricts_left g a b low m high n one sa sb r =
    record {
      inside = λ q l p here k.
          elim (one_side low m high a b n q l p one sa sb (r.inside q l p (wider_left low m high p (spans_order m b high sb) here) k)) [
            | inl x ↦ x
            | inr x ↦ absurd (apart low m high p here (path_lies m b high n 0 q l p sb x))
          ];
      outside = λ p q h. r.outside p q (or_left (goes a p q) (goes b p q) h);
    }

restricts_right : (g a b : Form) (low m high n : ℕ) → 1 ≤ low → Spans low a m → Spans m b high → Restricts g (And a b) low high n → Restricts g b m high n
restricts_right g a b low m high n one sa sb r =
    record {
      inside = λ q l p here k.
          elim (one_side low m high a b n q l p one sa sb (r.inside q l p (wider_right low m high p (spans_order low a m sa) here) k)) [
            | inr x ↦ x
            | inl x ↦ absurd (apart low m high p (path_lies low a m n 0 q l p sa x) here)
          ];
      outside = λ p q h. r.outside p q (or_right (goes a p q) (goes b p q) h);
    }

-- one test is true exactly if the other is
same_tests : (a b : Bool) → (a ≡ true → b ≡ true) → (b ≡ true → a ≡ true) → a ≡ b
same_tests a b f g =
    elim (cases_Bool a) [
      | inl t ↦ t ∙ sym (f t)
      | inr t ↦ t ∙ sym (false_from_ne_true b (λ k. let z = g k in cc))
    ]

part_ends : (g : Form) (e : Plain) (letter : ℕ → ℕ) (low high n : ℕ) (u : List ℕ) → 1 ≤ low → high ≤ 1 + n → Within low e high →
    Restricts g (Part e) low high n →
    list_any (λ p. ends e p) (following_value (goes g) letter n u) ≡ list_any (λ p. ends e p) (following_value (leads e) letter n u)
part_ends g e letter low high n u one fits s r =
    same_tests (list_any (λ p. ends e p) (following_value (goes g) letter n u)) (list_any (λ p. ends e p) (following_value (leads e) letter n u))
    (λ h.
    let k = any_to (λ p. ends e p) (following_value (goes g) letter n u) h in
    let t = ends_to (goes g) letter n u k.0 k.1 in
    any_from (λ p. ends e p) (following_value (leads e) letter n u) k.0 (ends_from (leads e) letter n u t.0 k.0 t.1 (inside t.0 k.0 k.2 t.2)) k.2)
    (λ h.
    let k = any_to (λ p. ends e p) (following_value (leads e) letter n u) h in
    let t = ends_to (leads e) letter n u k.0 k.1 in
    any_from (λ p. ends e p) (following_value (goes g) letter n u) k.0
    (ends_from (goes g) letter n u t.0 k.0 t.1 (path_more (leads e) (goes g) r.outside n 0 t.0 k.0 t.2)) k.2)
  where
    place : (p : ℕ) → 1 ≤ p → ends e p ≡ true → Lies low p high
    place zero l h = absurd (omega arith)
    place (suc p) l h = last_lies low e high (suc p) s h

    inside : (l : List ℕ) (p : ℕ) → ends e p ≡ true → Path (goes g) n 0 l p → Path (leads e) n 0 l p
    inside [] p h k = k
    inside (q ∷ l) p h k = let z = last_step (goes g) n 0 q l p k in r.inside q l p (place p z.lies h) k

pub accepts_is : (g f : Form) (letter : ℕ → ℕ) (low high n : ℕ) (u : List ℕ) → 1 ≤ low → high ≤ 1 + n → Spans low f high → Restricts g f low high n →
    accepts f (following_value (goes g) letter n u) ≡ is_meant letter f u
accepts_is g (Part e) letter low high n u one fits s r =
    part_ends g e letter low high n u one fits s r ∙
    same_tests (list_any (λ p. ends e p) (following_value (leads e) letter n u)) (matches letter e u)
    (accepts_from letter e n u (within_wider low 1 e high (1 + n) one fits s)) (accepts_to letter e n u (within_wider low 1 e high (1 + n) one fits s))
accepts_is g (And a b) letter low high n u one fits s r =
    let oa = spans_order low a s.0 s.1 in
    let ob = spans_order s.0 b high s.2 in
    let x = accepts_is g a letter low s.0 n u one (omega arith) s.1 (restricts_left g a b low s.0 high n one s.1 s.2 r) in
    let y = accepts_is g b letter s.0 high n u (omega arith) fits s.2 (restricts_right g a b low s.0 high n one s.1 s.2 r) in
    ap (λ z. z && accepts b (following_value (goes g) letter n u)) x ∙ ap (λ z. is_meant letter a u && z) y
accepts_is g (Not a) letter low high n u one fits s r =
    ap (λ z. not z) (accepts_is g a letter low high n u one fits s (record { inside = r.inside; outside = r.outside }))

pub accepts_meets : (f : Form) (letter : ℕ → ℕ) (n : ℕ) (u : List ℕ) → Spans 1 f (1 + n) → accepts f (following_value (goes f) letter n u) ≡ is_meant letter f u
accepts_meets f letter n u s = accepts_is f f letter 1 (1 + n) n u (omega arith) (omega arith) s (record { inside = λ q l p here k. k; outside = λ p q h. h })
