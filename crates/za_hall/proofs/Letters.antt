-- Complete letters of a machine, process by process.
use Rattle.std.proofs.Common.{◌<◌, zero, filter, append-nil, MatchOption, Option, None, if◌then◌else◌, ◌≡◌, ℕ, suc, ◌+◌, Bool, true, false, not, ◌&&◌, ◌==◌}
use Rattle.std.proofs.Common.{cond, inl, inr, List, [], ◌∷◌, ◌++◌, length, refl, sym, ap, ◌∙◌, arith, Some, nat_lt, ltb-true, lt-ltb, eqb-true, eq-eqb}
use Rattle.std.proofs.Common.{slice_index}
use Rattle.std.specs.List.{slice_get}
use Rattle.std.proofs.lemmas.Bool.{cases_lt, and_parts, and_from}
use Rattle.std.specs.List.{range_with_len}
use Rattle.std.proofs.lemmas.List.{map-id}
use Rattle.std.proofs.lemmas.List.FromFn.{filter_of_map_range_with_len_more}
use Rattle.za_alpha.specs.Search.{greatest}
use Rattle.za_order.specs.Views.{participants}
use Rattle.za_table.specs.Tables.{last_event}
use Rattle.std.proofs.lemmas.Option.{slice_get_past, slice_get-get_or, none-some}
use Rattle.za_alpha.specs.Words.{has, projection}
use Rattle.za_script.specs.Scripts.{comes_next}
use Rattle.za_machine.specs.Machine.{Machine, State, is_in, fired_by, next, is_complete, without}
use Rattle.za_script.proofs.Lists.{all-at, all-from}
use Rattle.za_machine.proofs.States.{at-without, fired_by-other}
use Rattle.za_hall.specs.Places.{places}

pub false_true : false ≡ true → ⊥
false_true e = cc

pub same_some : (a b : ℕ) → Some a ≡ Some b → a ≡ b
same_some a b e = cc

pub next-get : (script : List ℕ) (n a : ℕ) → comes_next script n a ≡ true → slice_get script n ≡ Some a
next-get script n a h =
    let b = and_parts (nat_lt n (length script)) (slice_index script n == a) h in
    slice_get-get_or script n 0 (ltb-true n (length script) b.0) ∙ ap Some (eqb-true (slice_index script n) a b.1)

pub get-next : (script : List ℕ) (n a : ℕ) → slice_get script n ≡ Some a → comes_next script n a ≡ true
get-next script n a e = elim (cases_lt n (length script)) [
  | inl l ↦ and_from (nat_lt n (length script)) (slice_index script n == a) (lt-ltb n (length script) l)
      (eq-eqb (slice_index script n) a (same_some (slice_index script n) a (sym (slice_get-get_or script n 0 l) ∙ e)))
  | inr g ↦ absurd (none-some a (sym (slice_get_past script n g) ∙ e))
]

module _ (m : Machine) where
  -- what a complete letter says of its processes
  pub parts : (c : State) (a q : ℕ) → is_complete m c a ≡ true → has (m.loc a) q ≡ true → (is_in c.arrived q ≡ true) × (next m c.journal q ≡ Some a)
  parts c a q full mine =
      let b = and_parts (is_in c.arrived q) (comes_next (m.scripts q) (fired_by m c.journal q) a)
      (all-at (λ p. is_in c.arrived p && comes_next (m.scripts p) (fired_by m c.journal p) a) (m.loc a) q full mine) in
      (b.0, next-get (m.scripts q) (fired_by m c.journal q) a b.1)

  pub whole : (c : State) (a : ℕ) → ((q : ℕ) → has (m.loc a) q ≡ true → (is_in c.arrived q ≡ true) × (next m c.journal q ≡ Some a)) → is_complete m c a ≡ true
  whole c a f = all-from (λ p. is_in c.arrived p && comes_next (m.scripts p) (fired_by m c.journal p) a) (m.loc a)
      (λ q mine. let b = f q mine in and_from (is_in c.arrived q) (comes_next (m.scripts q) (fired_by m c.journal q) a) b.0
      (get-next (m.scripts q) (fired_by m c.journal q) a b.1))

  -- two complete letters share no process
  pub one_next : (c : State) (a b q : ℕ) → is_complete m c a ≡ true → is_complete m c b ≡ true → has (m.loc a) q ≡ true → has (m.loc b) q ≡ true → a ≡ b
  one_next c a b q fa fb ma mb = same_some a b (sym (parts c a q fa ma).1 ∙ (parts c b q fb mb).1)

  -- who stays after the letter has fired is not of it
  pub stays : (c : State) (a q : ℕ) → is_in (without (m.loc a) 0 c.arrived) q ≡ true → (is_in c.arrived q ≡ true) × (has (m.loc a) q ≡ false)
  stays c a q e = go (is_in c.arrived q) (has (m.loc a) q) (sym (at-without (m.loc a) c.arrived q) ∙ e)
    where
      go : (x y : Bool) → (x && not y) ≡ true → (x ≡ true) × (y ≡ false)
      go true true h = absurd (false_true h)
      go true false h = (refl, refl)
      go false y h = absurd (false_true h)

  pub still : (c : State) (a q : ℕ) → has (m.loc a) q ≡ false → is_in (without (m.loc a) 0 c.arrived) q ≡ is_in c.arrived q
  still c a q out = at-without (m.loc a) c.arrived q ∙ (ap (λ b. is_in c.arrived q && not b) out ∙ and_true (is_in c.arrived q))
    where
      and_true : (b : Bool) → (b && true) ≡ b
      and_true true = refl
      and_true false = refl

  pub same_next : (c : State) (a q : ℕ) → has (m.loc a) q ≡ false → next m (c.journal ++ a ∷ []) q ≡ next m c.journal q
  same_next c a q out = ap (λ w. slice_get (m.scripts q) (length w)) (fired_by-other m c.journal a q out)

-- the places of the events of p, of which the first of the word is at k
abbrev places_from : (ℕ → List ℕ) → ℕ → ℕ → List ℕ → List ℕ
places_from loc p k [] = []
places_from loc p k (a ∷ w) = cond (has (loc a) p) (k ∷ places_from loc p (suc k) w) (places_from loc p (suc k) w)

-- they are those that a filter finds
filter-places : (loc : ℕ → List ℕ) (p k : ℕ) (w : List ℕ) (f : ℕ → Bool) → ((i : ℕ) → i < length w → f (k + i) ≡ has (loc (slice_index w i)) p) → filter f
    (range_with_len k (length w)) ≡ places_from loc p k w
filter-places loc p k [] f same = refl
filter-places loc p k (a ∷ w) f same =
    let e : k + 1 ≡ suc k = omega arith in
    let z : k + 0 ≡ k = omega arith in
    let here : f k ≡ has (loc a) p = ap f (sym z) ∙ same 0 (omega arith) in
    let there = filter-places loc p (suc k) w f (λ i l. let m : suc k + i ≡ k + suc i = omega arith in ap f m ∙ same (suc i) (omega arith)) in
    ap (λ (b : Bool). cond b (k ∷ filter f (range_with_len (k + 1) (length w))) (filter f (range_with_len (k + 1) (length w)))) here
    ∙ (ap (λ (i : ℕ). cond (has (loc a) p) (k ∷ filter f (range_with_len i (length w))) (filter f (range_with_len i (length w)))) e
    ∙ ap (λ (xs : List ℕ). cond (has (loc a) p) (k ∷ xs) xs) there)

places_is : (m : Machine) (p : ℕ) (w : List ℕ) → places m p w ≡ places_from m.loc p 0 w
places_is m p w = filter-places m.loc p 0 w (λ i. has (participants m.loc w i) p) (λ i l. let e : 0 + i ≡ i = omega arith in
    ap (λ (j : ℕ). has (m.loc (slice_index w j)) p) e)

places_snoc : (loc : ℕ → List ℕ) (p k : ℕ) (w : List ℕ) (a : ℕ) → places_from loc p k (w ++ a ∷ []) ≡ places_from loc p k w ++ cond (has (loc a) p)
    ((k + length w) ∷ []) []
places_snoc loc p k [] a = go (has (loc a) p)
  where
    go : (b : Bool) → cond b (k ∷ []) [] ≡ cond b ((k + 0) ∷ []) []
    go true = ap (λ (i : ℕ). i ∷ []) (omega arith)
    go false = refl
places_snoc loc p k (b ∷ w) a = go (has (loc b) p) (let e : suc k + length w ≡ k + suc (length w) = omega arith in
    places_snoc loc p (suc k) w a ∙ ap (λ (i : ℕ). places_from loc p (suc k) w ++ cond (has (loc a) p) (i ∷ []) []) e)
  where
    go : (d : Bool) → places_from loc p (suc k) (w ++ a ∷ []) ≡ places_from loc p (suc k) w ++ cond (has (loc a) p) ((k + suc (length w)) ∷ []) []
        → cond d (k ∷ places_from loc p (suc k) (w ++ a ∷ [])) (places_from loc p (suc k) (w ++ a ∷ []))
        ≡ cond d (k ∷ places_from loc p (suc k) w) (places_from loc p (suc k) w) ++ cond (has (loc a) p) ((k + suc (length w)) ∷ []) []
    go true tail = ap (λ xs. k ∷ xs) tail
    go false tail = tail

projection_cons : (loc : ℕ → List ℕ) (p a : ℕ) (w : List ℕ) → length (projection loc p (a ∷ w)) ≡ cond (has (loc a) p) 1 0 + length (projection loc p w)
projection_cons loc p a w = go (has (loc a) p)
  where
    go : (b : Bool) → length (cond b (a ∷ projection loc p w) (projection loc p w)) ≡ cond b 1 0 + length (projection loc p w)
    go true = omega arith
    go false = omega arith

length_from : (loc : ℕ → List ℕ) (p k : ℕ) (w : List ℕ) → length (places_from loc p k w) ≡ length (projection loc p w)
length_from loc p k [] = refl
length_from loc p k (a ∷ w) = go (has (loc a) p) (length_from loc p (suc k) w) ∙ sym (projection_cons loc p a w)
  where
    go : (b : Bool) → length (places_from loc p (suc k) w) ≡ length (projection loc p w) → length
        (cond b (k ∷ places_from loc p (suc k) w) (places_from loc p (suc k) w)) ≡ cond b 1 0 + length (projection loc p w)
    go true e = omega arith
    go false e = omega arith

-- there are as many as events of the process
pub length_places : (m : Machine) (p : ℕ) (w : List ℕ) → length (places m p w) ≡ fired_by m w p
length_places m p w = ap length (places_is m p w) ∙ length_from m.loc p 0 w

-- the letter's event is one more of each of its processes
pub places_own : (m : Machine) (p a : ℕ) (w : List ℕ) → has (m.loc a) p ≡ true → places m p (w ++ a ∷ []) ≡ places m p w ++ length w ∷ []
places_own m p a w mine = places_is m p (w ++ a ∷ []) ∙ (places_snoc m.loc p 0 w a ∙ (ap (λ b. places_from m.loc p 0 w ++ cond b ((0 + length w) ∷ []) []) mine
    ∙ ((let e : 0 + length w ≡ length w = omega arith in ap (λ (i : ℕ). places_from m.loc p 0 w ++ i ∷ []) e) ∙ ap (λ (xs : List ℕ). xs ++ length w ∷ [])
    (sym (places_is m p w)))))

pub places_other : (m : Machine) (p a : ℕ) (w : List ℕ) → has (m.loc a) p ≡ false → places m p (w ++ a ∷ []) ≡ places m p w
places_other m p a w out = places_is m p (w ++ a ∷ []) ∙ (places_snoc m.loc p 0 w a ∙
    (ap (λ b. places_from m.loc p 0 w ++ cond b ((0 + length w) ∷ []) []) out ∙ (append-nil (places_from m.loc p 0 w) ∙ sym (places_is m p w))))

-- the latest event of a process is the last of its places
match_map : (o : Option ℕ) (P P' : Type 0) (Q Q' : ℕ → Type 0) → (P → P') → ((e : ℕ) → Q e → Q' e) → MatchOption o P Q → MatchOption o P' Q'
match_map None P P' Q Q' f g h = f h
match_map (Some e) P P' Q Q' f g h = g e h

module _ (f : ℕ → Bool) where
  one_more : (n : ℕ) → filter f (range_with_len 0 (suc n)) ≡ filter f (range_with_len 0 n) ++ cond (f n) (n ∷ []) []
  one_more n = let s : suc n ≡ n + 1 = omega arith in let z : 0 + n ≡ n = omega arith in
      ap (λ (j : ℕ). filter f (range_with_len 0 j)) s ∙ (ap (filter f) (sym (map-id (range_with_len 0 (n + 1)))) ∙
      (filter_of_map_range_with_len_more f (λ i. i) 0 n n z
      ∙ ap (λ (xs : List ℕ). filter f xs ++ cond (f n) (n ∷ []) []) (map-id (range_with_len 0 n))))

  last_place : (n : ℕ) → MatchOption (greatest f n) (filter f (range_with_len 0 n) ≡ []) (λ e. (before : List ℕ)
      × (filter f (range_with_len 0 n) ≡ before ++ e ∷ []))
  last_place zero = refl
  last_place (suc n) = go (f n) (one_more n) (last_place n)
    where
      now : List ℕ
      now = filter f (range_with_len 0 (suc n))

      go : (b : Bool) → now ≡ filter f (range_with_len 0 n) ++ cond b (n ∷ []) [] → MatchOption (greatest f n) (filter f (range_with_len 0 n) ≡ [])
          (λ e. (before : List ℕ) × (filter f (range_with_len 0 n) ≡ before ++ e ∷ []))
          → MatchOption (if b then Some n else greatest f n) (now ≡ []) (λ e. (before : List ℕ) × (now ≡ before ++ e ∷ []))
      go true e before = (filter f (range_with_len 0 n), e)
      go false e before = let same : now ≡ filter f (range_with_len 0 n) = e ∙ append-nil (filter f (range_with_len 0 n)) in
          match_map (greatest f n) (filter f (range_with_len 0 n) ≡ []) (now ≡ []) (λ x. (before : List ℕ)
          × (filter f (range_with_len 0 n) ≡ before ++ x ∷ [])) (λ x. (before : List ℕ) × (now ≡ before ++ x ∷ []))
          (λ h. same ∙ h) (λ x h. (h.0, same ∙ h.1)) before

pub last_is_last : (m : Machine) (p : ℕ) (w : List ℕ) → MatchOption (last_event m w p) (places m p w ≡ [])
    (λ e. (before : List ℕ) × (places m p w ≡ before ++ e ∷ []))
last_is_last m p w = last_place (λ i. has (participants m.loc w i) p) (length w)
