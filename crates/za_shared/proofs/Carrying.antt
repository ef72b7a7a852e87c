-- Records after a change that makes no key live.
use Rattle.std.proofs.Common.{◌≡◌, ℕ, suc, ◌+◌, ◌*◌, ◌<◌, ◌≤◌, ◌==◌, ◌||◌, Bool, true, false, cond, List, [], ◌∷◌, ◌++◌, length, map, get_or, refl, sym, ap}
use Rattle.std.proofs.Common.{subst, ◌∙◌, arith, inl, inr, eqb-true, eq-eqb, Option, Some, None, length-append, set, get_or-set_same, get_or-set_other}
use Rattle.std.specs.Prelude.{count_by, ◌⊎◌, is_some, filter}
use Rattle.std.specs.List.{All}
use Rattle.std.proofs.lemmas.Bool.{cases_Bool, cases_eq, cases_lt, cond-true, cond-false, or_left, or_right, or_cases}
use Rattle.std.proofs.lemmas.Option.{none-some}
use Rattle.std.proofs.lemmas.List.{get_or_past}
use Rattle.std.proofs.lemmas.List.Elements.{All-head, All-tail, All-cons, All-nil}
use Rattle.std.proofs.lemmas.List.Sums.{sum_by-cons, sum_by-set, length-filter, count_by-le-length}
use Rattle.za_alpha.specs.Words.{has}
use Rattle.za_alpha.specs.Alphabet.{loc_of}
use Rattle.za_dfa.specs.Tables.{CompleteDfa}
use Rattle.za_local.specs.Locals.{LocalState, AreLocalsAfter, HasShape}
use Rattle.za_records.specs.Shelf.{Shelf, count, count_of, live, AreCounted}
use Rattle.za_records.specs.declared.shelf.Counted.{Counted}
use Rattle.za_cache.specs.Lines.{LineKey}
use Rattle.za_shared.specs.Holders.{value, is_named, holders}
use Rattle.za_shared.specs.Records.{Records, AreRecords, IsLine, bound}
use Rattle.za_shared.specs.Private.Steps.{one}

pub count-more : {X : Type 0} (p : X → Bool) (x : X) (xs : List X) → count_by p (x ∷ xs) ≡ cond (p x) 1 0 + count_by p xs
count-more p x xs = sum_by-cons (λ y. cond {A = ℕ} (p y) 1 0) x xs

pub count-one : (key k : ℕ) → count_by (λ x. x == k) (key ∷ []) ≡ one key k
count-one key k = count-more (λ (x : ℕ). x == k) key [] ∙ (let z : count_by (λ (x : ℕ). x == k) [] ≡ 0 = refl in omega arith)

pub map-same : (f g : ℕ → LocalState) (xs : List ℕ) → ((k : ℕ) → has xs k ≡ true → f k ≡ g k) → map f xs ≡ map g xs
map-same f g [] h = refl
map-same f g (x ∷ xs) h =
    let a = h x (or_left (x == x) (has xs x) (eq-eqb x x refl)) in
    let b = map-same f g xs (λ k m. h k (or_right (x == k) (has xs k) m)) in cc

pub line-moved : (d : CompleteDfa) (s t : Shelf LocalState) (line : LineKey × ℕ) →
    ((k : ℕ) → is_named line.0.inputs line.1 k ≡ true → value t k ≡ value s k) → IsLine d s line → IsLine d t line
line-moved d s t line same ok = record {
  short = ok.short;
  transition = λ w h x p.
      let inputs = map-same (value t) (value s) line.0.inputs (λ k m. same k (or_right (line.1 == k) (has line.0.inputs k) m)) in
      same line.1 (or_left (line.1 == line.1) (has line.0.inputs line.1) (eq-eqb line.1 line.1 refl))
      ∙ ok.transition w (subst (AreLocalsAfter d w (loc_of d.alphabet line.0.letter)) inputs h) x p;
}

abbrev pub names : ℕ → LineKey × ℕ → Bool
names k line = is_named line.0.inputs line.1 k

pub lines-moved : (d : CompleteDfa) (s t : Shelf LocalState) (ls : List (LineKey × ℕ)) → ((k : ℕ) → 0 < count_by (names k) ls → value t k ≡ value s k) →
    All (IsLine d s) ls → All (IsLine d t) ls
lines-moved d s t [] h all = All-nil (IsLine d t)
lines-moved d s t (l ∷ ls) h all =
    All-cons (IsLine d t) l ls
    (line-moved d s t l (λ k m. h k (let e = count-more (names k) l ls in let o = cond-true {A = ℕ} (names k l) 1 0 m in omega arith))
    (All-head (IsLine d s) l ls all))
    (lines-moved d s t ls (λ k m. h k (let e = count-more (names k) l ls in omega arith)) (All-tail (IsLine d s) l ls all))

module _ (r : Records) (s : Shelf LocalState) (own keys : List ℕ) (lines : List (LineKey × ℕ)) (spares : List LocalState) (ok : AreRecords r)
    (counts : (k : ℕ) → count s k ≡ holders own keys lines k) (old : (k : ℕ) → 0 < count s k → 0 < count r.shelf k)
    (values : (k : ℕ) → 0 < count s k → value s k ≡ value r.shelf k) where
  pub carried : (cache : ℕ) → cache ≡ r.cache → length keys ≡ r.dfa.alphabet.processes → length own ≤ 1 →
      All (HasShape r.dfa.alphabet.processes r.dfa.states) spares →
      live s + length spares ≡ live r.shelf + length r.spares → s.capacity ≡ r.shelf.capacity → length lines ≤ r.cache → All (IsLine r.dfa r.shelf) lines →
      AreRecords (record { dfa = r.dfa; cache = cache; shelf = s; own = own; keys = keys; lines = lines; spares = spares })
  carried cache same size few shaped whole capacity short all = record {
    complete = ok.complete;
    keys_size = size;
    own_few = few;
    counts = counts;
    apart = λ k l a b e. ok.apart k l (old k a) (old l b) (sym (values k a) ∙ e ∙ values l b);
    shaped = λ k a. subst (HasShape r.dfa.alphabet.processes r.dfa.states) (sym (values k a)) (ok.shaped k (old k a));
    spares_shaped = shaped;
    whole = whole ∙ ok.whole ∙ ap (bound r.dfa.alphabet.processes) (sym same);
    capacity = capacity ∙ ok.capacity ∙ ap (bound r.dfa.alphabet.processes) (sym same);
    lines_few = let e = same in omega arith;
    cache_few = let e = same in let c = ok.cache_few in omega arith;
    lines = lines-moved r.dfa r.shelf s lines (λ k m. values k (let c = counts k in omega arith)) all;
  }

-- each live key is among the holds, so there are no more of them
none-kept : (xs : List (Option (Counted LocalState))) → ((k : ℕ) → get_or xs k None ≡ None) → filter is_some xs ≡ []
none-kept [] h = refl
none-kept (None ∷ xs) h = none-kept xs (λ k. h (suc k))
none-kept (Some c ∷ xs) h = absurd (none-some c (sym (h 0)))

some_or : (o : Option (Counted LocalState)) → (o ≡ None) ⊎ ((c : Counted LocalState) × (o ≡ Some c))
some_or None = inl refl
some_or (Some c) = inr (c, refl)

false-true : false ≡ true → ⊥
false-true e = cc

slots-le : (hs : List ℕ) (xs : List (Option (Counted LocalState))) → ((k : ℕ) (c : Counted LocalState) → get_or xs k None ≡ Some c → has hs k ≡ true) →
    count_by is_some xs ≤ length hs
slots-le [] xs h =
    let e = ap length (none-kept xs (λ k. elim (some_or (get_or xs k None)) [ inl n ↦ n | inr t ↦ absurd (false-true (h k t.0 t.1)) ])) in
    let l = length-filter is_some xs in omega arith
slots-le (x ∷ hs) xs h = elim (cases_lt x (length xs)) [
  | inr out ↦
      let a = slots-le hs xs (λ k c e. elim (or_cases (x == k) (has hs k) (h k c e)) [
        | inl is ↦ absurd (none-some c (sym (get_or_past xs k None (subst (λ (i : ℕ). length xs ≤ i) (eqb-true x k is) out)) ∙ e))
        | inr m ↦ m
      ]) in omega arith
  | inl in' ↦
      let s = sum_by-set (λ (o : Option (Counted LocalState)). cond {A = ℕ} (is_some o) 1 0) xs x None None in' in
      let most = one-le (is_some (get_or xs x None)) in
      let a = slots-le hs (set xs x None) (λ k c e. elim (cases_eq k x) [
        | inl same ↦ absurd (none-some c (sym (ap (λ (i : ℕ). get_or (set xs x None) i None) same ∙ get_or-set_same xs x None None in') ∙ e))
        | inr n ↦ elim (or_cases (x == k) (has hs k) (h k c (sym (get_or-set_other xs x k None None n) ∙ e))) [
          | inl is ↦ absurd (n (sym (eqb-true x k is)))
          | inr m ↦ m
        ]
      ]) in omega arith
]
  where
    one-le : (b : Bool) → cond {A = ℕ} b 1 0 ≤ 1
    one-le true = omega arith
    one-le false = omega arith

-- all keys that lines name
abbrev all_names : List (LineKey × ℕ) → List ℕ
all_names [] = []
all_names (l ∷ ls) = l.1 ∷ (l.0.inputs ++ all_names ls)

has-append : (xs ys : List ℕ) (k : ℕ) → has (xs ++ ys) k ≡ (has xs k || has ys k)
has-append [] ys k = refl
has-append (x ∷ xs) ys k = ap (λ b. (x == k) || b) (has-append xs ys k) ∙ go (x == k)
  where
    go : (b : Bool) → (b || (has xs k || has ys k)) ≡ ((b || has xs k) || has ys k)
    go true = refl
    go false = refl

count-has : (keys : List ℕ) (k : ℕ) → 0 < count_by (λ x. x == k) keys → has keys k ≡ true
count-has [] k h = absurd (let z : count_by (λ (x : ℕ). x == k) [] ≡ 0 = refl in omega arith)
count-has (x ∷ xs) k h = elim (cases_Bool (x == k)) [
  | inl t ↦ or_left (x == k) (has xs k) t
  | inr f ↦ or_right (x == k) (has xs k)
      (count-has xs k (let e = count-more (λ (y : ℕ). y == k) x xs in let o = cond-false {A = ℕ} (x == k) 1 0 f in omega arith))
]

names-has : (ls : List (LineKey × ℕ)) (k : ℕ) → 0 < count_by (names k) ls → has (all_names ls) k ≡ true
names-has [] k h = absurd (let z : count_by (names k) [] ≡ 0 = refl in omega arith)
names-has (l ∷ ls) k h = elim (cases_Bool (names k l)) [
  | inl t ↦ elim (or_cases (l.1 == k) (has l.0.inputs k) t) [
    | inl is ↦ or_left (l.1 == k) (has (l.0.inputs ++ all_names ls) k) is
    | inr m ↦ or_right (l.1 == k) (has (l.0.inputs ++ all_names ls) k)
        (has-append l.0.inputs (all_names ls) k ∙ or_left (has l.0.inputs k) (has (all_names ls) k) m)
  ]
  | inr f ↦
      let m = names-has ls k (let e = count-more (names k) l ls in let o = cond-false {A = ℕ} (names k l) 1 0 f in omega arith) in
      or_right (l.1 == k) (has (l.0.inputs ++ all_names ls) k) (has-append l.0.inputs (all_names ls) k ∙ or_right (has l.0.inputs k) (has (all_names ls) k) m)
]

length-names : (d : CompleteDfa) (s : Shelf LocalState) (ls : List (LineKey × ℕ)) → All (IsLine d s) ls →
    length (all_names ls) ≤ length ls * (d.alphabet.processes + 1)
length-names d s [] all = omega arith
length-names d s (l ∷ ls) all =
    let a = length-names d s ls (All-tail (IsLine d s) l ls all) in
    let b = (All-head (IsLine d s) l ls all).short in
    let e = length-append l.0.inputs (all_names ls) in
    let m : suc (length ls) * (d.alphabet.processes + 1) ≡ (d.alphabet.processes + 1) + length ls * (d.alphabet.processes + 1) = grind (arith) in omega arith

pub times-le : (a b c : ℕ) → a ≤ b → a * c ≤ c * b
times-le a b c h = grind (arith)

-- a record is spare while no call holds one
pub some-spare : (r : Records) → AreRecords r → AreCounted r.shelf → r.own ≡ [] → 0 < length r.spares
some-spare r ok counted free =
    let hs = r.keys ++ all_names r.lines in
    let le = slots-le hs r.shelf.slots (λ k c e.
    let n = counted k c e in
    let z = ap count_of e in
    let q = ok.counts k in
    let o = ap (count_by (λ (x : ℕ). x == k)) free in
    let u : count_by (λ (x : ℕ). x == k) [] ≡ 0 = refl in
    has-append r.keys (all_names r.lines) k ∙ elim (cases_lt 0 (count_by (λ (x : ℕ). x == k) r.keys)) [
      | inl a ↦ or_left (has r.keys k) (has (all_names r.lines) k) (count-has r.keys k a)
      | inr a ↦ or_right (has r.keys k) (has (all_names r.lines) k) (names-has r.lines k (omega arith))
    ]) in
    let e = length-append r.keys (all_names r.lines) in
    let b = length-names r.dfa r.shelf r.lines ok.lines in
    let t = times-le (length r.lines) r.cache (r.dfa.alphabet.processes + 1) ok.lines_few in
    let size = ok.keys_size in
    let whole = ok.whole in omega arith

pub few-holders : (r : Records) → AreRecords r → (k : ℕ) → count r.shelf k ≤ 1 + (r.dfa.alphabet.processes + r.cache)
few-holders r ok k =
    let q = ok.counts k in
    let a = count_by-le-length (λ (x : ℕ). x == k) r.own in
    let b = count_by-le-length (λ (x : ℕ). x == k) r.keys in
    let c = count_by-le-length (names k) r.lines in
    let f = ok.own_few in let g = ok.keys_size in let h = ok.lines_few in omega arith
