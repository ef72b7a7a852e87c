-- What may stand after a place: nothing where it is last, and else a following place.
use Rattle.std.proofs.Common.{◌≡◌, ℕ, zero, suc, ◌≤◌, true, ◌&&◌, ◌||◌, inl, inr, List, [], ◌∷◌, ◌++◌, refl, sym, ap, ◌∙◌, arith, eqb-true, eq-eqb}
use Rattle.std.proofs.lemmas.Bool.{or_cases, or_left, or_right, and_parts, and_from}
use Rattle.za_expression.specs.Plain.{Plain, One, Occurrence, Sequence, Or, Star}
use Rattle.za_expression.specs.Following.{nullable, is_first, is_last, follows, leads, ends}
use Rattle.za_expression.specs.Private.Ordered.{Within}
use Rattle.za_expression.proofs.Meaning.{NoMore, More}
use Rattle.za_expression.proofs.Follow.{Marked, After, nullable_from, nullable_to, Lies, apart, first_lies, follows_lie, after_lies, first_of, first_to}
use Rattle.za_expression.proofs.Follow.{first_from}

left_empty : (u v : List ℕ) → u ++ v ≡ [] → u ≡ []
left_empty [] v e = refl
left_empty (a ∷ u) v e = cc

right_empty : (u v : List ℕ) → u ++ v ≡ [] → v ≡ []
right_empty [] v e = e
right_empty (a ∷ u) v e = cc

pub last_to : (e : Plain) (p : ℕ) (w : List ℕ) → After e p w → w ≡ [] → is_last e p ≡ true
last_to One p w h z = elim h [ ]
last_to (Occurrence q) p w h z = eq-eqb q p h.0
last_to (Sequence a b) p w (inl h) z =
    let k : h.left ++ h.right ≡ [] = sym h.is ∙ z in
    or_right (is_last b p) (nullable b && is_last a p)
    (and_from (nullable b) (is_last a p) (nullable_from b h.right h.in_right (right_empty h.left h.right k))
    (last_to a p h.left h.in_left (left_empty h.left h.right k)))
last_to (Sequence a b) p w (inr h) z = or_left (is_last b p) (nullable b && is_last a p) (last_to b p w h z)
last_to (Or a b) p w (inl h) z = or_left (is_last a p) (is_last b p) (last_to a p w h z)
last_to (Or a b) p w (inr h) z = or_right (is_last a p) (is_last b p) (last_to b p w h z)
last_to (Star a) p w h z = last_to a p h.left h.in_left (left_empty h.left h.right (sym h.is ∙ z))

pub last_from : (e : Plain) (p : ℕ) → is_last e p ≡ true → After e p []
last_from One p h = cc
last_from (Occurrence q) p h = (eqb-true q p h, refl)
last_from (Sequence a b) p h =
    elim (or_cases (is_last b p) (nullable b && is_last a p) h) [
      | inl l ↦ inr (last_from b p l)
      | inr r ↦ let k = and_parts (nullable b) (is_last a p) r in
          inl (record { left = []; right = []; is = refl; in_left = last_from a p k.1; in_right = nullable_to b k.0 })
    ]
last_from (Or a b) p h = elim (or_cases (is_last a p) (is_last b p) h) [ inl l ↦ inl (last_from a p l) | inr r ↦ inr (last_from b p r) ]
last_from (Star a) p h = record { left = []; right = []; is = refl; in_left = last_from a p h; in_right = NoMore }

pub follows_to : (e : Plain) (p q : ℕ) (w m : List ℕ) → After e p m → m ≡ q ∷ w → (follows e p q ≡ true) × After e q w
follows_to One p q w m h z = elim h [ ]
follows_to (Occurrence r) p q w m h z = let k = h.1 in absurd (let x : [] ≡ q ∷ w = sym h.1 ∙ z in cc)
follows_to (Sequence a b) p q w m (inl h) z =
    elim h.left as (λ x. After a p x → x ++ h.right ≡ q ∷ w → (follows (Sequence a b) p q ≡ true) × After (Sequence a b) q w) [
      | [] ↦ λ x k.
          let r = first_to b q w h.right h.in_right k in (
            or_right (follows a p q) (follows b p q || (is_last a p && is_first b q))
                (or_right (follows b p q) (is_last a p && is_first b q) (and_from (is_last a p) (is_first b q) (last_to a p [] x refl) r.0)),
            inr r.1,
          )
      | s ∷ u ↦ λ x k.
          let s_is : s ≡ q = cc in
          let w_is : w ≡ u ++ h.right = cc in
          let r = follows_to a p q u (s ∷ u) x (ap (λ y. y ∷ u) s_is) in (
            or_left (follows a p q) (follows b p q || (is_last a p && is_first b q)) r.0,
            inl (record {
              left = u;
              right = h.right;
              is = w_is;
              in_left =
                  r.1;
              in_right = h.in_right;
            }),
          )
    ] h.in_left (sym h.is ∙ z)
follows_to (Sequence a b) p q w m (inr h) z =
    let r = follows_to b p q w m h z in
    (or_right (follows a p q) (follows b p q || (is_last a p && is_first b q)) (or_left (follows b p q) (is_last a p && is_first b q) r.0), inr r.1)
follows_to (Or a b) p q w m (inl h) z = let r = follows_to a p q w m h z in (or_left (follows a p q) (follows b p q) r.0, inl r.1)
follows_to (Or a b) p q w m (inr h) z = let r = follows_to b p q w m h z in (or_right (follows a p q) (follows b p q) r.0, inr r.1)
follows_to (Star a) p q w m h z =
    elim h.left as (λ x. After a p x → x ++ h.right ≡ q ∷ w → (follows (Star a) p q ≡ true) × After (Star a) q w) [
      | [] ↦ λ x k.
          let f = first_of (λ y. Marked a y) q w h.right h.in_right k in
          let r = first_to a q f.front (q ∷ f.front) f.in_front refl in (
            or_right (follows a p q) (is_last a p && is_first a q) (and_from (is_last a p) (is_first a q) (last_to a p [] x refl) r.0),
            record { left = f.front; right = f.back; is = f.is; in_left = r.1; in_right = f.in_back },
          )
      | s ∷ u ↦ λ x k.
          let s_is : s ≡ q = cc in
          let w_is : w ≡ u ++ h.right = cc in
          let r = follows_to a p q u (s ∷ u) x (ap (λ y. y ∷ u) s_is) in
          (or_left (follows a p q) (is_last a p && is_first a q) r.0, record { left = u; right = h.right; is = w_is; in_left = r.1; in_right = h.in_right })
    ] h.in_left (sym h.is ∙ z)

pub follows_from : (low : ℕ) (e : Plain) (high p q : ℕ) (w : List ℕ) → Within low e high → follows e p q ≡ true → After e q w → After e p (q ∷ w)
follows_from low One high p q u w h k = elim k [ ]
follows_from low (Occurrence r) high p q u w h k = cc
follows_from low (Sequence a b) high p q u w h (inl k) =
    let here = after_lies low a w.0 q k.left w.1 k.in_left in
    elim (or_cases (follows a p q) (follows b p q || (is_last a p && is_first b q)) h) [
      | inl l ↦ inl (record {
        left = q ∷ k.left;
        right = k.right;
        is = ap (λ x. q ∷ x) k.is;
        in_left =
            follows_from low a w.0 p q k.left w.1 l k.in_left;
        in_right = k.in_right;
      })
      | inr r ↦ elim (or_cases (follows b p q) (is_last a p && is_first b q) r) [
        | inl l ↦ absurd (apart low w.0 high q here (follows_lie w.0 b high p q w.2 l).1)
        | inr s ↦ absurd (apart low w.0 high q here (first_lies w.0 b high q w.2 (and_parts (is_last a p) (is_first b q) s).1))
      ]
    ]
follows_from low (Sequence a b) high p q u w h (inr k) =
    let here = after_lies w.0 b high q u w.2 k in
    elim (or_cases (follows a p q) (follows b p q || (is_last a p && is_first b q)) h) [
      | inl l ↦ absurd (apart low w.0 high q (follows_lie low a w.0 p q w.1 l).1 here)
      | inr r ↦ elim (or_cases (follows b p q) (is_last a p && is_first b q) r) [
        | inl l ↦ inr (follows_from w.0 b high p q u w.2 l k)
        | inr s ↦ let t = and_parts (is_last a p) (is_first b q) s in
            inl (record { left = []; right = q ∷ u; is = refl; in_left = last_from a p t.0; in_right = first_from w.0 b high q u w.2 t.1 k })
      ]
    ]
follows_from low (Or a b) high p q u w h (inl k) =
    elim (or_cases (follows a p q) (follows b p q) h) [
      | inl l ↦ inl (follows_from low a w.0 p q u w.1 l k)
      | inr r ↦ absurd (apart low w.0 high q (after_lies low a w.0 q u w.1 k) (follows_lie w.0 b high p q w.2 r).1)
    ]
follows_from low (Or a b) high p q u w h (inr k) =
    elim (or_cases (follows a p q) (follows b p q) h) [
      | inl l ↦ absurd (apart low w.0 high q (follows_lie low a w.0 p q w.1 l).1 (after_lies w.0 b high q u w.2 k))
      | inr r ↦ inr (follows_from w.0 b high p q u w.2 r k)
    ]
follows_from low (Star a) high p q u w h k =
    elim (or_cases (follows a p q) (is_last a p && is_first a q) h) [
      | inl l ↦ record {
        left = q ∷ k.left;
        right = k.right;
        is = ap (λ x. q ∷ x) k.is;
        in_left = follows_from low a high p q k.left w l k.in_left;
        in_right =
            k.in_right;
      }
      | inr s ↦ let t = and_parts (is_last a p) (is_first a q) s in
          record {
            left = [];
            right = q ∷ u;
            is = refl;
            in_left = last_from a p t.0;
            in_right = More (q ∷ k.left) k.right (first_from low a high q k.left w t.1 k.in_left) k.in_right (ap (λ x. q ∷ x) k.is);
          }
    ]

-- each expression has a word, and each place in it a rest
pub some_word : (e : Plain) → (w : List ℕ) × Marked e w
some_word One = ([], refl)
some_word (Occurrence p) = (p ∷ [], refl)
some_word (Sequence a b) =
    let x = some_word a in let y = some_word b in
    (x.0 ++ y.0, record { left = x.0; right = y.0; is = refl; in_left = x.1; in_right = y.1 })
some_word (Or a b) = let x = some_word a in (x.0, inl x.1)
some_word (Star a) = ([], NoMore)

pub first_rest : (e : Plain) (p : ℕ) → is_first e p ≡ true → (w : List ℕ) × After e p w
first_rest One p h = cc
first_rest (Occurrence q) p h = ([], (eqb-true q p h, refl))
first_rest (Sequence a b) p h =
    elim (or_cases (is_first a p) (nullable a && is_first b p) h) [
      | inl l ↦ let x = first_rest a p l in let y = some_word b in
          (x.0 ++ y.0, inl (record { left = x.0; right = y.0; is = refl; in_left = x.1; in_right = y.1 }))
      | inr r ↦ let x = first_rest b p (and_parts (nullable a) (is_first b p) r).1 in (x.0, inr x.1)
    ]
first_rest (Or a b) p h =
    elim (or_cases (is_first a p) (is_first b p) h) [
      | inl l ↦ let x = first_rest a p l in (x.0, inl x.1)
      | inr r ↦ let x = first_rest b p r in (x.0, inr x.1)
    ]
first_rest (Star a) p h = let x = first_rest a p h in (x.0 ++ [], record { left = x.0; right = []; is = refl; in_left = x.1; in_right = NoMore })

pub follows_rest : (e : Plain) (p q : ℕ) → follows e p q ≡ true → (w : List ℕ) × After e q w
follows_rest One p q h = cc
follows_rest (Occurrence r) p q h = cc
follows_rest (Sequence a b) p q h =
    elim (or_cases (follows a p q) (follows b p q || (is_last a p && is_first b q)) h) [
      | inl l ↦ let x = follows_rest a p q l in let y = some_word b in
          (x.0 ++ y.0, inl (record { left = x.0; right = y.0; is = refl; in_left = x.1; in_right = y.1 }))
      | inr r ↦ elim (or_cases (follows b p q) (is_last a p && is_first b q) r) [
        | inl l ↦ let x = follows_rest b p q l in (x.0, inr x.1)
        | inr s ↦ let x = first_rest b q (and_parts (is_last a p) (is_first b q) s).1 in (x.0, inr x.1)
      ]
    ]
follows_rest (Or a b) p q h =
    elim (or_cases (follows a p q) (follows b p q) h) [
      | inl l ↦ let x = follows_rest a p q l in (x.0, inl x.1)
      | inr r ↦ let x = follows_rest b p q r in (x.0, inr x.1)
    ]
follows_rest (Star a) p q h =
    elim (or_cases (follows a p q) (is_last a p && is_first a q) h) [
      | inl l ↦ let x = follows_rest a p q l in (x.0 ++ [], record { left = x.0; right = []; is = refl; in_left = x.1; in_right = NoMore })
      | inr s ↦ let x = first_rest a q (and_parts (is_last a p) (is_first a q) s).1 in
          (x.0 ++ [], record { left = x.0; right = []; is = refl; in_left = x.1; in_right = NoMore })
    ]

-- from the start, or after a place
abbrev pub Rest : Plain → ℕ → List ℕ → Type 0
Rest e zero w = Marked e w
Rest e (suc p) w = After e (suc p) w

pub rest_ends : (e : Plain) (p : ℕ) → Rest e p [] → ends e p ≡ true
rest_ends e zero h = nullable_from e [] h refl
rest_ends e (suc p) h = last_to e (suc p) [] h refl

pub ends_rest : (e : Plain) (p : ℕ) → ends e p ≡ true → Rest e p []
ends_rest e zero h = nullable_to e h
ends_rest e (suc p) h = last_from e (suc p) h

pub rest_leads : (e : Plain) (p q : ℕ) (w : List ℕ) → Rest e p (q ∷ w) → (leads e p q ≡ true) × After e q w
rest_leads e zero q w h = first_to e q w (q ∷ w) h refl
rest_leads e (suc p) q w h = follows_to e (suc p) q w (q ∷ w) h refl

pub leads_rest : (low : ℕ) (e : Plain) (high p q : ℕ) (w : List ℕ) → Within low e high → leads e p q ≡ true → After e q w → Rest e p (q ∷ w)
leads_rest low e high zero q u w h k = first_from low e high q u w h k
leads_rest low e high (suc p) q u w h k = follows_from low e high (suc p) q u w h k

pub leads_lies : (low : ℕ) (e : Plain) (high p q : ℕ) → Within low e high → leads e p q ≡ true → Lies low q high
leads_lies low e high zero q w h = first_lies low e high q w h
leads_lies low e high (suc p) q w h = (follows_lie low e high (suc p) q w h).1

pub leads_some : (e : Plain) (p q : ℕ) → leads e p q ≡ true → (w : List ℕ) × After e q w
leads_some e zero q h = first_rest e q h
leads_some e (suc p) q h = follows_rest e (suc p) q h

-- after a place that is not the start
pub rest_after : (e : Plain) (p : ℕ) (w : List ℕ) → 1 ≤ p → Rest e p w → After e p w
rest_after e zero w l h = absurd (omega arith)
rest_after e (suc p) w l h = h

pub after_rest : (e : Plain) (p : ℕ) (w : List ℕ) → 1 ≤ p → After e p w → Rest e p w
after_rest e zero w l h = absurd (omega arith)
after_rest e (suc p) w l h = h
