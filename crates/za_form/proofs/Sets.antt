-- Steps of the sets that the automaton of values is made of.
use Rattle.std.proofs.Common.{◌≡◌, ◌≢◌, ℕ, zero, suc, ◌+◌, ◌<◌, ◌≤◌, ◌^◌, ◌/◌, Bool, true, false, ◌||◌, ◌&&◌, ◌==◌, cond, nat_lt, inl, inr, List, [], ◌∷◌, ◌++◌}
use Rattle.std.proofs.Common.{length, length-append, get_or, replicate, filter, bit_and, bit_or, refl, sym, ap, ◌∙◌, arith, eq-eqb, add-one}
use Rattle.std.specs.Prelude.{unwrap_or}
use Rattle.std.specs.List.{list_any, range_with_len}
use Rattle.std.specs.Int.{bit_at}
use Rattle.std.proofs.lemmas.Bool.{cases_eq, cases_lt, ne_eqb, or_right, lt-ltb, le-ltb}
use Rattle.std.proofs.lemmas.Nat.Bits.{shr_and_one}
use Rattle.std.proofs.lemmas.List.{get_or_append_left}
use Rattle.std.proofs.Math.Seq.{get_or-append_seam}
use Rattle.za_alpha.specs.Words.{has}
use Rattle.za_expression.specs.declared.sign.Sign.{Sign}
use Rattle.za_expression.specs.declared.sign.Sign.TheVariants.{Empty}
use Rattle.za_expression.specs.Plain.{One}
use Rattle.za_expression.specs.Limits.{most_signs}
use Rattle.za_expression.specs.Forms.{Form, Part}
use Rattle.za_expression.specs.Grammar.{IsForm}
use Rattle.za_expression.specs.Following.{goes}
use Rattle.za_expression.proofs.Complete.{complete}
use Rattle.za_expression.proofs.Values.{has-own, range_to}
use Rattle.za_expression.proofs.Whole.{form_spans}
use Rattle.za_form.specs.Expressions.{named_letter, letter_at}
use Rattle.za_form.specs.Private.Numbers.{has_bit, form_of}
use Rattle.za_form.specs.Private.Sets.{IsSet, AddsSteps, IsFormBelow, AreRows, IsAfter, AreMasks, stands_at}
use Rattle.za_form.proofs.BitSets.{has_bit-or, zero_bit}
use Rattle.za_form.proofs.Occurrences.{below_spans}

-- the form that signs are is theirs
pub form_is : (signs : List Sign) (f : Form) → IsForm 1 signs f → form_of signs ≡ f
form_is signs f h = ap (λ o. unwrap_or o (Part One)) (complete signs f h)

pub below_form : (signs : List Sign) (f : Form) → IsForm 1 signs f → length signs ≤ most_signs → IsFormBelow 128 f
below_form signs f h few = below_spans 1 f (1 + length signs) 128 (omega arith) (omega arith) (form_spans signs f h)

-- rows that begin without places
pub rows_from : (signs : List Sign) (f : Form) (old new : List ℕ) → IsForm 1 signs f → ((p : ℕ) → get_or old p 0 ≡ 0) → length signs < length old →
    AddsSteps old new (goes f) → AreRows signs new
rows_from signs f old new h none long adds = record {
  each = λ p q l.
      adds.rows p q (omega arith) ∙ ap (λ m. has_bit m q || goes f p q) (none p) ∙ ap (λ b. b || goes f p q) (zero_bit q) ∙
      ap (λ g. goes g p q) (sym (form_is signs f h));
}

-- any of a range and of one number more
or_assoc : (a b c : Bool) → (a || (b || c)) ≡ ((a || b) || c)
or_assoc true b c = refl
or_assoc false b c = refl

or_none : (a : Bool) → (a || false) ≡ a
or_none true = refl
or_none false = refl

any_more : (f : ℕ → Bool) (a n : ℕ) → list_any f (range_with_len a (suc n)) ≡ (list_any f (range_with_len a n) || f (a + n))
any_more f a zero = or_none (f a) ∙ ap f (let e : a ≡ a + 0 = omega arith in e)
any_more f a (suc n) =
    ap (λ x. f a || x) (any_more f (a + 1) n) ∙ (or_assoc (f a) (list_any f (range_with_len (a + 1) n)) (f (a + 1 + n)) ∙
    ap (λ x. (f a || list_any f (range_with_len (a + 1) n)) || f x) (let e : a + 1 + n ≡ a + suc n = omega arith in e))

pub any_next : (f : ℕ → Bool) (p : ℕ) → list_any f (range_with_len 0 (p + 1)) ≡ (list_any f (range_with_len 0 p) || f p)
any_next f p = ap (λ x. list_any f (range_with_len 0 x)) (add-one p) ∙ any_more f 0 p ∙
    ap (λ x. list_any f (range_with_len 0 p) || f x) (let z : 0 + p ≡ p = omega arith in z)

-- one more place of a union
pub after_more : (all m row p q : ℕ) (rest : Bool) → (bit_and (m / 2 ^ p) 1 ≡ 1) → has_bit all q ≡ rest →
    has_bit (bit_or all row) q ≡ (rest || (has_bit m p && has_bit row q))
after_more all m row p q rest h r =
    let t : has_bit m p ≡ true = eq-eqb (bit_at m p) 1 (sym (shr_and_one m p) ∙ h) in
    has_bit-or all row q ∙ (ap (λ x. x || has_bit row q) r ∙ ap (λ b. rest || (b && has_bit row q)) (sym t))

pub after_same : (all m row p q : ℕ) (rest : Bool) → (bit_and (m / 2 ^ p) 1 ≡ 1 → ⊥) → has_bit all q ≡ rest →
    has_bit all q ≡ (rest || (has_bit m p && has_bit row q))
after_same all m row p q rest h r =
    let t : has_bit m p ≡ false = ne_eqb (bit_at m p) 1 (λ e. h (shr_and_one m p ∙ e)) in
    r ∙ (sym (or_none rest) ∙ ap (λ b. rest || (b && has_bit row q)) (sym t))

any_filter : (g h : ℕ → Bool) (xs : List ℕ) → list_any g (filter h xs) ≡ list_any (λ x. h x && g x) xs
any_filter g h [] = refl
any_filter g h (x ∷ xs) =
    elim (h x) as (λ b. list_any g (cond b (x ∷ filter h xs) (filter h xs)) ≡ ((b && g x) || list_any (λ y. h y && g y) xs)) [
      | true ↦ ap (λ r. g x || r) (any_filter g h xs)
      | false ↦ any_filter g h xs
    ]

any_same : (f g : ℕ → Bool) (xs : List ℕ) → ((x : ℕ) → has xs x ≡ true → f x ≡ g x) → list_any f xs ≡ list_any g xs
any_same f g [] h = refl
any_same f g (x ∷ xs) h = ap (λ b. b || list_any f xs) (h x (has-own x xs)) ∙ ap (λ b. g x || b) (any_same f g xs (λ y k. h y (later x y xs k)))
  where
    later : (x y : ℕ) (xs : List ℕ) → has xs y ≡ true → has (x ∷ xs) y ≡ true
    later x y xs k = or_right (x == y) (has xs y) k

-- the rows of a number's places, together
pub after_all : (signs : List Sign) (rows : List ℕ) (m all : ℕ) → AreRows signs rows →
    ((q : ℕ) → has_bit all q ≡ list_any (λ p. has_bit m p && has_bit (get_or rows p 0) q) (range_with_len 0 (suc (length signs)))) → IsAfter signs m all
after_all signs rows m all are h = record {
  bits = λ q.
      h q ∙ any_same (λ p. has_bit m p && has_bit (get_or rows p 0) q) (λ p. has_bit m p && goes (form_of signs) p q) (range_with_len 0 (suc (length signs)))
      (λ p k. let r = range_to 0 (suc (length signs)) p k in let b = r.below in ap (λ x. has_bit m p && x) (are.each p q (omega arith)))
      ∙ sym (any_filter (λ p. goes (form_of signs) p q) (λ p. has_bit m p) (range_with_len 0 (suc (length signs))));
}

-- the places up to k of a letter
abbrev pub is_up_to : List Sign → ℕ → ℕ → ℕ → Bool
is_up_to signs a k q = nat_lt 0 q && (nat_lt q (suc k) && letter_at signs q == a)

up_to_other : (signs : List Sign) (a i q : ℕ) → i + 1 ≢ q → is_up_to signs a i q ≡ is_up_to signs a (i + 1) q
up_to_other signs a i q ne =
    elim (cases_lt q (suc i)) [
      | inl x ↦ ap (λ b. nat_lt 0 q && (b && letter_at signs q == a)) (lt-ltb q (suc i) x ∙ sym (lt-ltb q (suc (i + 1)) (omega arith)))
      | inr x ↦ ap (λ b. nat_lt 0 q && (b && letter_at signs q == a)) (le-ltb q (suc i) x ∙ sym (le-ltb q (suc (i + 1)) (omega arith)))
    ]

letter_here : (signs : List Sign) (i : ℕ) → letter_at signs (i + 1) ≡ named_letter (get_or signs i Empty)
letter_here signs i = ap (letter_at signs) (add-one i)

up_to_here : (signs : List Sign) (a i q : ℕ) → i + 1 ≡ q → is_up_to signs a (i + 1) q ≡ (named_letter (get_or signs i Empty) == a)
up_to_here signs a i q e =
    let at : letter_at signs q ≡ named_letter (get_or signs i Empty) = ap (letter_at signs) (sym e) ∙ letter_here signs i in
    ap (λ b. b && (nat_lt q (suc (i + 1)) && letter_at signs q == a)) (lt-ltb 0 q (omega arith)) ∙
    ap (λ b. b && letter_at signs q == a) (lt-ltb q (suc (i + 1)) (omega arith)) ∙ ap (λ x. x == a) at

up_to_before : (signs : List Sign) (a i q : ℕ) → i + 1 ≡ q → is_up_to signs a i q ≡ false
up_to_before signs a i q e =
    ap (λ b. nat_lt 0 q && (b && letter_at signs q == a)) (le-ltb q (suc i) (omega arith)) ∙ and_none (nat_lt 0 q)
  where
    and_none : (x : Bool) → (x && false) ≡ false
    and_none true = refl
    and_none false = refl

pub mask_added : (signs : List Sign) (a i mask one new : ℕ) → (named_letter (get_or signs i Empty) == a) ≡ true → IsSet one (λ q. i + 1 == q) →
    IsSet new (λ q. has_bit mask q || has_bit one q) →
    ((q : ℕ) → has_bit mask q ≡ is_up_to signs a i q) → (q : ℕ) → has_bit new q ≡ is_up_to signs a (i + 1) q
mask_added signs a i mask one new h o n inv q =
    n.bits q ∙ elim (cases_eq (i + 1) q) [
      | inl e ↦ ap (λ b. b || has_bit one q) (inv q ∙ up_to_before signs a i q e) ∙ o.bits q ∙ eq-eqb (i + 1) q e ∙ sym (up_to_here signs a i q e ∙ h)
      | inr ne ↦ ap (λ b. has_bit mask q || b) (o.bits q ∙ ne_eqb (i + 1) q ne) ∙ or_none (has_bit mask q) ∙ inv q ∙ up_to_other signs a i q ne
    ]

pub mask_same : (signs : List Sign) (a i mask : ℕ) → (named_letter (get_or signs i Empty) == a) ≡ false → ((q : ℕ) → has_bit mask q ≡ is_up_to signs a i q) →
    (q : ℕ) → has_bit mask q ≡ is_up_to signs a (i + 1) q
mask_same signs a i mask h inv q =
    inv q ∙ elim (cases_eq (i + 1) q) [
      | inl e ↦ up_to_before signs a i q e ∙ sym (up_to_here signs a i q e ∙ h)
      | inr ne ↦ up_to_other signs a i q ne
    ]

-- one letter's mask more
pub masks_more : (signs : List Sign) (a mask : ℕ) (masks masks' : List ℕ) → AreMasks signs a masks → IsSet mask (stands_at signs a)
    → masks' ≡ masks ++ mask ∷ [] →
    AreMasks signs (a + 1) masks'
masks_more signs a mask masks masks' are new e =
    let size = are.size in
    let long = length-append masks (mask ∷ []) in
    let long' = ap length e in
    record {
      size = omega arith;
      each = λ b q l. elim (cases_lt b a) [
        | inl less ↦ ap (λ xs. has_bit (get_or xs b 0) q) e ∙ ap (λ m. has_bit m q) (get_or_append_left masks (mask ∷ []) 0 b (omega arith)) ∙ are.each b q less
        | inr more ↦
            let same : b ≡ length masks = omega arith in
            let same' : a ≡ b = omega arith in
            ap (λ xs. has_bit (get_or xs b 0) q) e ∙ ap (λ k. has_bit (get_or (masks ++ mask ∷ []) k 0) q) same ∙
            ap (λ m. has_bit m q) (get_or-append_seam masks mask [] 0) ∙ new.bits q ∙ ap (λ x. stands_at signs x q) same'
      ];
    }

-- a list of zeros
pub zeros : (n p : ℕ) → get_or {A = ℕ} (replicate n 0) p 0 ≡ 0
zeros zero p = refl
zeros (suc n) zero = refl
zeros (suc n) (suc p) = zeros n p
