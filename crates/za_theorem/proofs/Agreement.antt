-- What is computed from the numbers that processes keep depends on those of the processes xs alone.
use Rattle.std.proofs.Common.{◌≡◌, ℕ, zero, suc, ◌+◌, ◌^◌, ◌<◌, Bool, true, not, ◌&&◌, ◌||◌, ◌==◌, inl, inr, List, [], ◌∷◌, map, take, length, get_or}
use Rattle.std.proofs.Common.{if◌then◌else◌, refl, sym, ap, ◌∙◌, arith}
use Rattle.std.specs.List.{range_with_len, list_any, list_all}
use Rattle.std.proofs.Math.Path.{fun_ext}
use Rattle.std.proofs.lemmas.Bool.{cases_Bool, and_left}
use Rattle.za_alpha.specs.Words.{has}
use Rattle.za_alpha.specs.Search.{least}
use Rattle.za_alpha.proofs.Least.{least-true, least-le}
use Rattle.za_order.specs.Labels.{number_of}
use Rattle.za_order.specs.Locals.{Ids}
use Rattle.za_order.proofs.Equivalent.{same-ids}
use Rattle.za_order.proofs.Sets.{has-here, has-there, has-cases}
use Rattle.za_gossip.specs.Rows.{rows_of}
use Rattle.za_gossip.specs.Updates.{knows_number, newest, new_label, new_primary, new_secondary, new_tertiary, updated}

-- tests that agree on a list
pub any-agree : (f g : ℕ → Bool) (ys : List ℕ) → ((y : ℕ) → has ys y ≡ true → f y ≡ g y) → list_any f ys ≡ list_any g ys
any-agree f g [] h = refl
any-agree f g (y ∷ ys) h = ap (λ b. b || list_any f ys) (h y (has-here y y ys refl)) ∙ ap (λ b. g y || b) (any-agree f g ys (λ z k. h z (has-there y z ys k)))

pub all-agree : (f g : ℕ → Bool) (ys : List ℕ) → ((y : ℕ) → has ys y ≡ true → f y ≡ g y) → list_all f ys ≡ list_all g ys
all-agree f g [] h = refl
all-agree f g (y ∷ ys) h = ap (λ b. b && list_all f ys) (h y (has-here y y ys refl)) ∙ ap (λ b. g y && b) (all-agree f g ys (λ z k. h z (has-there y z ys k)))

-- a list has what stands in it, and what its first part has
pub has-at : (xs : List ℕ) (i : ℕ) → i < length xs → has xs (get_or xs i 0) ≡ true
has-at [] i l = absurd (omega arith)
has-at (x ∷ xs) zero l = has-here x x xs refl
has-at (x ∷ xs) (suc i) l = has-there x (get_or xs i 0) xs (has-at xs i (omega arith))

pub has-first : (xs : List ℕ) (i y : ℕ) → has (take i xs) y ≡ true → has xs y ≡ true
has-first [] zero y h = cc
has-first [] (suc i) y h = cc
has-first (x ∷ xs) zero y h = cc
has-first (x ∷ xs) (suc i) y h = elim (has-cases x y (take i xs) h) [ inl e ↦ has-here x y xs e | inr r ↦ has-there x y xs (has-first xs i y r) ]

-- whether an input before x has the primary entry of x for s as a primary one
abbrev pub earlier_by : ℕ → (ℕ → Ids) → List ℕ → ℕ → ℕ → Bool
earlier_by n known ps x s = not ((known x).primary s == 0) && list_any (λ y. has (map (known y).primary (range_with_len 0 n)) ((known x).primary s)) ps

-- whether the newest of xs for r has it as a secondary entry for r
abbrev pub under_by : ℕ → (ℕ → Ids) → List ℕ → ℕ → ℕ → ℕ → Bool
under_by n known xs x r s =
    not (has xs r) && (not ((known x).primary s == 0) && has (map ((known (newest n xs known r)).secondary r) (range_with_len 0 n)) ((known x).primary s))

abbrev pub omitted_by : ℕ → (ℕ → Ids) → List ℕ → (ℕ → Bool) → List ℕ → ℕ → ℕ → Bool
omitted_by n known xs set ps x s = earlier_by n known ps x s || list_any (λ r. set r && under_by n known xs x r s) (range_with_len 0 n)

module _ (n : ℕ) (xs : List ℕ) (before known : ℕ → Ids) (agree : (x : ℕ) → has xs x ≡ true → before x ≡ known x) where
  abbrev knows : (ℕ → Ids) → ℕ → ℕ → ℕ → Bool
  knows k r x y = knows_number n (k x).secondary r ((k y).primary r)

  knows-same : (r x y : ℕ) → has xs x ≡ true → has xs y ≡ true → knows before r x y ≡ knows known r x y
  knows-same r x y hx hy =
      ap (λ (own : Ids). knows_number n own.secondary r ((before y).primary r)) (agree x hx)
      ∙ ap (λ (other : Ids). knows_number n (known x).secondary r (other.primary r)) (agree y hy)

  pub newest-same : (r : ℕ) → newest n xs before r ≡ newest n xs known r
  newest-same r =
      let test = λ (k : ℕ → Ids) (x : ℕ). has xs x && list_all (knows k r x) xs in
      let same : (x : ℕ) → test before x ≡ test known x = λ x.
      elim (cases_Bool (has xs x)) [
        | inl t ↦ ap (λ b. has xs x && b) (all-agree (knows before r x) (knows known r x) xs (λ y h. knows-same r x y t h))
        | inr f ↦ and_left (has xs x) (list_all (knows before r x) xs) f ∙ sym (and_left (has xs x) (list_all (knows known r x) xs) f)
      ] in
      ap (λ t. least t n) (fun_ext same)

  module _ (best : (r : ℕ) → has xs (newest n xs known r) ≡ true) where
    newest-known : (r : ℕ) → before (newest n xs before r) ≡ known (newest n xs known r)
    newest-known r = ap before (newest-same r) ∙ agree (newest n xs known r) (best r)

    pub under-same : (x r s : ℕ) → has xs x ≡ true → under_by n before xs x r s ≡ under_by n known xs x r s
    under-same x r s h =
        let under : Ids → Ids → Bool = λ own other.
        not (has xs r) && (not (own.primary s == 0) && has (map (other.secondary r) (range_with_len 0 n)) (own.primary s)) in
        ap (λ k. under k (before (newest n xs before r))) (agree x h) ∙ ap (under (known x)) (newest-known r)

    earlier-same : (ps : List ℕ) (x s : ℕ) → ((y : ℕ) → has ps y ≡ true → has xs y ≡ true) → has xs x ≡ true →
        earlier_by n before ps x s ≡ earlier_by n known ps x s
    earlier-same ps x s sub h =
        let range : List ℕ = range_with_len 0 n in
        ap (λ (k : Ids). not (k.primary s == 0) && list_any (λ y. has (map (before y).primary range) (k.primary s)) ps) (agree x h)
        ∙ ap (λ b. not ((known x).primary s == 0) && b)
        (any-agree (λ y. has (map (before y).primary range) ((known x).primary s)) (λ y. has (map (known y).primary range) ((known x).primary s)) ps
        (λ y k. ap (λ (i : Ids). has (map i.primary range) ((known x).primary s)) (agree y (sub y k))))

    pub omitted-same : (set : ℕ → Bool) (ps : List ℕ) (x s : ℕ) → ((y : ℕ) → has ps y ≡ true → has xs y ≡ true) → has xs x ≡ true →
        omitted_by n before xs set ps x s ≡ omitted_by n known xs set ps x s
    omitted-same set ps x s sub h =
        let range : List ℕ = range_with_len 0 n in
        ap (λ b. b || list_any (λ r. set r && under_by n before xs x r s) range) (earlier-same ps x s sub h)
        ∙ ap (λ b. earlier_by n known ps x s || b)
        (any-agree (λ r. set r && under_by n before xs x r s) (λ r. set r && under_by n known xs x r s) range
        (λ r k. ap (λ b. set r && b) (under-same x r s h)))

    module _ (a x : ℕ) (here : has xs x ≡ true) (below : x < n) where
      least-there : has xs (least (has xs) n) ≡ true
      least-there = least-true (has xs) n (let l = least-le (has xs) n x here in omega arith)

      pub label-same : new_label n xs a before ≡ new_label n xs a known
      label-same = ap (λ (k : Ids). least (λ v. not (has (rows_of n k).tertiary (number_of n a v))) (n ^ 3 + 1)) (agree (least (has xs) n) least-there)

      primary-same : (q : ℕ) → new_primary n xs a before q ≡ new_primary n xs a known q
      primary-same q =
          ap (λ l. if has xs q then number_of n a l else (before (newest n xs before q)).primary q) label-same
          ∙ ap (λ (k : Ids). if has xs q then number_of n a (new_label n xs a known) else k.primary q) (newest-known q)

      secondary-same : (q r : ℕ) → new_secondary n xs a before q r ≡ new_secondary n xs a known q r
      secondary-same q r =
          ap (λ l. if has xs q then l else (before (newest n xs before q)).secondary q r) (primary-same r)
          ∙ ap (λ (k : Ids). if has xs q then new_primary n xs a known r else k.secondary q r) (newest-known q)

      tertiary-same : (q r s : ℕ) → new_tertiary n xs a before q r s ≡ new_tertiary n xs a known q r s
      tertiary-same q r s =
          ap (λ l. if has xs q then l else (before (newest n xs before q)).tertiary q r s) (secondary-same r s)
          ∙ ap (λ (k : Ids). if has xs q then new_secondary n xs a known r s else k.tertiary q r s) (newest-known q)

      pub updated-same : updated n xs a before ≡ updated n xs a known
      updated-same = same-ids (updated n xs a before) (updated n xs a known) primary-same secondary-same tertiary-same
