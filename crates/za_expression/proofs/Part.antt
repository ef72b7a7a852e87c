-- One plain part: the value of a word by following places, and whether it is in the meaning.
use Rattle.std.proofs.Common.{◌≡◌, ℕ, ◌+◌, ◌≤◌, Bool, true, false, inl, inr, List, [], ◌∷◌, ◌++◌, ◌==◌, map, refl, sym, ap, subst, ◌∙◌, arith, eqb-true}
use Rattle.std.proofs.Common.{append_assoc, append-nil}
use Rattle.std.specs.List.{list_any}
use Rattle.std.proofs.lemmas.Bool.{or_cases}
use Rattle.za_expression.specs.Plain.{Plain, One, Occurrence, Sequence, Or, Star, matches}
use Rattle.za_alpha.specs.Words.{has}
use Rattle.za_expression.specs.Values.{IsIn}
use Rattle.za_expression.specs.Following.{leads, ends, following_value}
use Rattle.za_expression.specs.Private.Ordered.{Within}
use Rattle.za_expression.proofs.Meaning.{Means, means, matches_from, Repeats, NoMore, More}
use Rattle.za_expression.proofs.Follow.{Marked}
use Rattle.za_expression.proofs.Rests.{Rest, rest_ends, ends_rest, leads_some, after_rest}
use Rattle.za_expression.proofs.Values.{any_from, any_to, Path, walk_to, walk_from, path_last, path_from}

-- the words are what the marked words spell
pub record Spelled (letter : ℕ → ℕ) (P : List ℕ → Type 0) (u : List ℕ) : Type 0 where
  pub word : List ℕ
  pub spells : map letter word ≡ u
  pub marked : P word

map-append : (f : ℕ → ℕ) (u v : List ℕ) → map f (u ++ v) ≡ map f u ++ map f v
map-append f [] v = refl
map-append f (a ∷ u) v = ap (λ x. f a ∷ x) (map-append f u v)

pub spelled_repeats : (letter : ℕ → ℕ) (P Q : List ℕ → Type 0) → ((u : List ℕ) → P u → Spelled letter Q u) → (u : List ℕ) → Repeats P u →
    Spelled letter (Repeats Q) u
spelled_repeats letter P Q f u NoMore = record { word = []; spells = refl; marked = NoMore }
spelled_repeats letter P Q f u (More x v h r e) =
    let a = f x h in
    let b = spelled_repeats letter P Q f v r in
    let s : map letter (a.word ++ b.word) ≡ u = map-append letter a.word b.word ∙
    (ap (λ y. y ++ map letter b.word) a.spells ∙ (ap (λ y. x ++ y) b.spells ∙ sym e)) in
    record { word = a.word ++ b.word; spells = s; marked = More a.word b.word a.marked b.marked refl }

pub spelled : (letter : ℕ → ℕ) (e : Plain) (u : List ℕ) → Means letter e u → Spelled letter (Marked e) u
spelled letter One u h = record { word = []; spells = sym h; marked = refl }
spelled letter (Occurrence p) u h = record { word = p ∷ []; spells = sym h; marked = refl }
spelled letter (Sequence a b) u h =
    let x = spelled letter a h.left h.in_left in
    let y = spelled letter b h.right h.in_right in
    let s : map letter (x.word ++ y.word) ≡ u = map-append letter x.word y.word ∙
    (ap (λ z. z ++ map letter y.word) x.spells ∙ (ap (λ z. h.left ++ z) y.spells ∙ sym h.is)) in
    record { word = x.word ++ y.word; spells = s; marked = record { left = x.word; right = y.word; is = refl; in_left = x.marked; in_right = y.marked } }
spelled letter (Or a b) u (inl h) = let x = spelled letter a u h in record { word = x.word; spells = x.spells; marked = inl x.marked }
spelled letter (Or a b) u (inr h) = let x = spelled letter b u h in record { word = x.word; spells = x.spells; marked = inr x.marked }
spelled letter (Star a) u h = spelled_repeats letter (λ x. Means letter a x) (λ x. Marked a x) (λ x k. spelled letter a x k) u h

pub means_repeats : (letter : ℕ → ℕ) (P Q : List ℕ → Type 0) → ((m : List ℕ) → P m → Q (map letter m)) → (m : List ℕ) → Repeats P m → Repeats Q (map letter m)
means_repeats letter P Q f m NoMore = NoMore
means_repeats letter P Q f m (More x v h r e) =
    More (map letter x) (map letter v) (f x h) (means_repeats letter P Q f v r) (ap (λ y. map letter y) e ∙ map-append letter x v)

pub means_spelled : (letter : ℕ → ℕ) (e : Plain) (m : List ℕ) → Marked e m → Means letter e (map letter m)
means_spelled letter One m h = ap (λ x. map letter x) h
means_spelled letter (Occurrence p) m h = ap (λ x. map letter x) h
means_spelled letter (Sequence a b) m h =
    record {
      left = map letter h.left;
      right = map letter h.right;
      is = ap (λ x. map letter x) h.is ∙
          map-append letter h.left h.right;
      in_left = means_spelled letter a h.left h.in_left;
      in_right = means_spelled letter b h.right h.in_right;
    }
means_spelled letter (Or a b) m (inl h) = inl (means_spelled letter a m h)
means_spelled letter (Or a b) m (inr h) = inr (means_spelled letter b m h)
means_spelled letter (Star a) m h = means_repeats letter (λ x. Marked a x) (λ x. Means letter a x) (λ x k. means_spelled letter a x k) m h

-- the source is the start
source_is : (s : ℕ) → has (0 ∷ []) s ≡ true → 0 ≡ s
source_is s h = elim (or_cases (0 == s) false h) [ inl l ↦ eqb-true 0 s l | inr r ↦ cc ]

-- where a path ends
pub record LastStep (leads : ℕ → ℕ → Bool) (l : List ℕ) (p : ℕ) : Type 0 where
  pub before : List ℕ
  pub previous : ℕ
  pub is : l ≡ before ++ p ∷ []
  pub leads_here : leads previous p ≡ true
  pub lies : 1 ≤ p

pub last_step : (leads : ℕ → ℕ → Bool) (n s q : ℕ) (l : List ℕ) (p : ℕ) → Path leads n s (q ∷ l) p → LastStep leads (q ∷ l) p
last_step leads n s q [] p h =
    let e : q ≡ p = h.2 in
    record { before = []; previous = s; is = ap (λ x. x ∷ []) e; leads_here = subst (λ x. leads s x ≡ true) e h.0; lies = subst (λ x. 1 ≤ x) e h.1.from }
last_step leads n s q (r ∷ l) p h =
    let k = last_step leads n q r l p h.2 in
    record { before = q ∷ k.before; previous = k.previous; is = ap (λ x. q ∷ x) k.is; leads_here = k.leads_here; lies = k.lies }

pub path_end : (leads : ℕ → ℕ → Bool) (n s : ℕ) (before : List ℕ) (p t : ℕ) → Path leads n s (before ++ p ∷ []) t → p ≡ t
path_end leads n s [] p t h = h.2
path_end leads n s (q ∷ before) p t h = path_end leads n q before p t h.2

-- where a path ends there is a place of the value
pub in_from_path : (letter : ℕ → ℕ) (e : Plain) (n q : ℕ) (l : List ℕ) (p : ℕ) → Within 1 e (1 + n) → Path (leads e) n 0 (q ∷ l) p →
    IsIn letter e (map letter (q ∷ l)) p
in_from_path letter e n q l p within h =
    let k = last_step (leads e) n 0 q l p h in
    let w = leads_some e k.previous p k.leads_here in
    let m : Rest e 0 ((q ∷ l) ++ w.0) = path_last 1 e (1 + n) n 0 (q ∷ l) w.0 p (omega arith) within h (after_rest e p w.0 k.lies w.1) in
    let m2 : Marked e ((k.before ++ p ∷ []) ++ w.0) = subst (λ x. Marked e (x ++ w.0)) k.is m in
    let m3 : Marked e (k.before ++ p ∷ w.0) = subst (λ x. Marked e x) (append_assoc k.before (p ∷ []) w.0) m2 in
    record { before = k.before; after = w.0; spells = ap (λ x. map letter x) (sym k.is); marked = matches_from (λ q. q) e (k.before ++ p ∷ w.0) m3 }

-- and each place of the value is the end of such a path
pub path_from_in : (letter : ℕ → ℕ) (e : Plain) (n : ℕ) (u : List ℕ) (p : ℕ) → Within 1 e (1 + n) → IsIn letter e u p →
    (l : List ℕ) × (map letter l ≡ u) × Path (leads e) n 0 l p
path_from_in letter e n u p within h =
    let m = means (λ q. q) e (h.before ++ p ∷ h.after) h.marked in
    let m2 : Rest e 0 ((h.before ++ p ∷ []) ++ h.after) = subst (λ x. Marked e x) (sym (append_assoc h.before (p ∷ []) h.after)) m in
    let k = path_from 1 e (1 + n) n 0 (h.before ++ p ∷ []) h.after (omega arith) (omega arith) within m2 in
    let e2 : p ≡ k.0 = path_end (leads e) n 0 h.before p k.0 k.1 in
    (h.before ++ p ∷ [], h.spells, subst (λ x. Path (leads e) n 0 (h.before ++ p ∷ []) x) (sym e2) k.1)

-- a value's places are the ends of paths
pub ends_to : (leads : ℕ → ℕ → Bool) (letter : ℕ → ℕ) (n : ℕ) (u : List ℕ) (p : ℕ) → has (following_value leads letter n u) p ≡ true →
    (l : List ℕ) × (map letter l ≡ u) × Path leads n 0 l p
ends_to leads letter n u p h =
    let k = walk_to leads letter n (0 ∷ []) u p h in
    let z = source_is k.source k.in_places in
    (k.path, k.spells, subst (λ x. Path leads n x k.path p) (sym z) k.leads_to)

pub ends_from : (leads : ℕ → ℕ → Bool) (letter : ℕ → ℕ) (n : ℕ) (u l : List ℕ) (p : ℕ) → map letter l ≡ u → Path leads n 0 l p →
    has (following_value leads letter n u) p ≡ true
ends_from leads letter n u l p s h =
    subst (λ x. has (following_value leads letter n x) p ≡ true) s (walk_from leads letter n l (0 ∷ []) 0 p refl h)

-- a word is in the meaning exactly if its value has a last place
pub accepts_to : (letter : ℕ → ℕ) (e : Plain) (n : ℕ) (u : List ℕ) → Within 1 e (1 + n) → matches letter e u ≡ true →
    list_any (ends e) (following_value (leads e) letter n u) ≡ true
accepts_to letter e n u within h =
    let s = spelled letter e u (means letter e u h) in
    let m : Rest e 0 (s.word ++ []) = subst (λ x. Marked e x) (sym (append-nil s.word)) s.marked in
    let k = path_from 1 e (1 + n) n 0 s.word [] (omega arith) (omega arith) within m in
    let g = walk_from (leads e) letter n s.word (0 ∷ []) 0 k.0 refl k.1 in
    let at : has (following_value (leads e) letter n u) k.0 ≡ true =
    subst (λ x. has (following_value (leads e) letter n x) k.0 ≡ true) s.spells g in
    any_from (ends e) (following_value (leads e) letter n u) k.0 at (rest_ends e k.0 k.2)

pub accepts_from : (letter : ℕ → ℕ) (e : Plain) (n : ℕ) (u : List ℕ) → Within 1 e (1 + n) → list_any (ends e) (following_value (leads e) letter n u) ≡ true →
    matches letter e u ≡ true
accepts_from letter e n u within h =
    let k = any_to (ends e) (following_value (leads e) letter n u) h in
    let r = walk_to (leads e) letter n (0 ∷ []) u k.0 k.1 in
    let z = source_is r.source r.in_places in
    let m : Rest e 0 (r.path ++ []) =
    path_last 1 e (1 + n) n 0 r.path [] k.0 (omega arith) within (subst (λ x. Path (leads e) n x r.path k.0) (sym z) r.leads_to) (ends_rest e k.0 k.2) in
    let m2 : Marked e r.path = subst (λ x. Marked e x) (append-nil r.path) m in
    matches_from letter e u (subst (λ x. Means letter e x) r.spells (means_spelled letter e r.path m2))
