-- Places of an expression are from 1 on.
use Rattle.std.proofs.Common.{◌≡◌, ◌≢◌, ℕ, zero, suc, ◌<◌, ◌≤◌, Bool, true, false, ◌||◌, ◌&&◌, List, length, get_or, refl, sym, ap, ◌∙◌, arith, get_or-set_same}
use Rattle.std.proofs.Common.{get_or-set_other}
use Rattle.std.proofs.Math.ListN.{set}
use Rattle.std.proofs.lemmas.Bool.{ne_eqb}
use Rattle.za_expression.specs.Plain.{Plain, One, Occurrence, Sequence, Or, Star}
use Rattle.za_expression.specs.Forms.{Form, Part, And, Not}
use Rattle.za_expression.specs.Following.{nullable, is_first, is_last, follows, leads, ends}
use Rattle.za_expression.specs.Private.Ordered.{Within, Spans}
use Rattle.za_expression.proofs.Follow.{within_order}
use Rattle.za_expression.proofs.FormValues.{spans_order}
use Rattle.za_form.specs.Private.Numbers.{has_bit}
use Rattle.za_form.specs.Private.Sets.{IsSet, AddsSteps, IsBelow, IsFormBelow}
use Rattle.za_form.proofs.BitSets.{has_bit-pow}

neither : (x y : Bool) → x ≡ false → y ≡ false → (x || y) ≡ false
neither x y a b = ap (λ z. z || y) a ∙ b

and_none : (x y : Bool) → y ≡ false → (x && y) ≡ false
and_none true y h = h
and_none false y h = refl

none_and : (x y : Bool) → x ≡ false → (x && y) ≡ false
none_and x y h = ap (λ z. z && y) h

or_none : (x : Bool) → (x || false) ≡ x
or_none true = refl
or_none false = refl

last_zero : (n : ℕ) (e : Plain) → IsBelow n e → is_last e 0 ≡ false
last_zero n One h = refl
last_zero n (Occurrence q) h = let l = h.0 in ne_eqb q 0 (λ z. omega arith)
last_zero n (Sequence a b) h = neither (is_last b 0) (nullable b && is_last a 0) (last_zero n b h.1) (and_none (nullable b) (is_last a 0) (last_zero n a h.0))
last_zero n (Or a b) h = neither (is_last a 0) (is_last b 0) (last_zero n a h.0) (last_zero n b h.1)
last_zero n (Star a) h = last_zero n a h

follows_zero : (n : ℕ) (e : Plain) (q : ℕ) → IsBelow n e → follows e 0 q ≡ false
follows_zero n One q h = refl
follows_zero n (Occurrence r) q h = refl
follows_zero n (Sequence a b) q h =
    neither (follows a 0 q) (follows b 0 q || (is_last a 0 && is_first b q)) (follows_zero n a q h.0)
    (neither (follows b 0 q) (is_last a 0 && is_first b q) (follows_zero n b q h.1) (none_and (is_last a 0) (is_first b q) (last_zero n a h.0)))
follows_zero n (Or a b) q h = neither (follows a 0 q) (follows b 0 q) (follows_zero n a q h.0) (follows_zero n b q h.1)
follows_zero n (Star a) q h = neither (follows a 0 q) (is_last a 0 && is_first a q) (follows_zero n a q h)
    (none_and (is_last a 0) (is_first a q) (last_zero n a h))

-- where the empty word is in the meaning a word may end at the start too
pub ends_with_start : (n : ℕ) (e : Plain) (last all : ℕ) → IsBelow n e → IsSet last (is_last e) → IsSet all (λ q. has_bit last q || has_bit 1 q) →
    nullable e ≡ true → (p : ℕ) → has_bit all p ≡ ends e p
ends_with_start n e last all h l a t zero =
    a.bits 0 ∙ ap (λ x. x || true) (l.bits 0 ∙ last_zero n e h) ∙ sym t
ends_with_start n e last all h l a t (suc p) =
    a.bits (suc p) ∙ ap (λ x. has_bit last (suc p) || x) (has_bit-pow 0 (suc p) ∙ ne_eqb 0 (suc p) (λ z. omega arith)) ∙ or_none (has_bit last (suc p)) ∙
    l.bits (suc p)

pub ends_alone : (n : ℕ) (e : Plain) (last : ℕ) → IsBelow n e → IsSet last (is_last e) → nullable e ≡ false → (p : ℕ) → has_bit last p ≡ ends e p
ends_alone n e last h l f zero = l.bits 0 ∙ last_zero n e h ∙ sym f
ends_alone n e last h l f (suc p) = l.bits (suc p)

-- the first occurrences stand after the start
pub part_added : (n : ℕ) (e : Plain) (old mid new : List ℕ) (first both : ℕ) → IsBelow n e → 0 < length old → AddsSteps old mid (follows e) →
    IsSet first (is_first e) → IsSet both (λ q. has_bit (get_or mid 0 0) q || has_bit first q) →
    new ≡ set mid 0 both → length new ≡ length mid → AddsSteps old new (leads e)
part_added n e old mid new first both h some adds f b is long =
    record { size = long ∙ adds.size; rows = rows }
  where
    none : (x y z : Bool) → y ≡ false → ((x || y) || z) ≡ (x || z)
    none x y z k = ap (λ w. (x || w) || z) k ∙ ap (λ w. w || z) (or_none x)

    rows : (p q : ℕ) → p < length old → has_bit (get_or new p 0) q ≡ (has_bit (get_or old p 0) q || leads e p q)
    rows zero q l =
        let size = adds.size in
        let here : 0 < length mid = omega arith in
        ap (λ x. has_bit (get_or x 0 0) q) is ∙ ap (λ x. has_bit x q) (get_or-set_same mid 0 both 0 here) ∙ b.bits q ∙
        ap (λ x. x || has_bit first q) (adds.rows 0 q l) ∙
        none (has_bit (get_or old 0 0) q) (follows e 0 q) (has_bit first q) (follows_zero n e q h) ∙ ap (λ x. has_bit (get_or old 0 0) q || x) (f.bits q)
    rows (suc p) q l =
        let other : suc p ≢ 0 = λ z. omega arith in
        ap (λ x. has_bit (get_or x (suc p) 0) q) is ∙ ap (λ x. has_bit x q) (rw get_or-set_other refl) ∙ adds.rows (suc p) q l

-- occurrences in order are below the end
pub below_within : (low : ℕ) (e : Plain) (high n : ℕ) → 1 ≤ low → high ≤ n → Within low e high → IsBelow n e
below_within low One high n a b h = tt
below_within low (Occurrence p) high n a b h = let x = h.0 in let y = h.1 in (omega arith, omega arith)
below_within low (Sequence c d) high n a b h =
    let x = within_order low c h.0 h.1 in let y = within_order h.0 d high h.2 in
    (below_within low c h.0 n a (omega arith) h.1, below_within h.0 d high n (omega arith) b h.2)
below_within low (Or c d) high n a b h =
    let x = within_order low c h.0 h.1 in let y = within_order h.0 d high h.2 in
    (below_within low c h.0 n a (omega arith) h.1, below_within h.0 d high n (omega arith) b h.2)
below_within low (Star c) high n a b h = below_within low c high n a b h

pub below_spans : (low : ℕ) (f : Form) (high n : ℕ) → 1 ≤ low → high ≤ n → Spans low f high → IsFormBelow n f
below_spans low (Part e) high n a b h = below_within low e high n a b h
below_spans low (And c d) high n a b h =
    let x = spans_order low c h.0 h.1 in let y = spans_order h.0 d high h.2 in
    (below_spans low c h.0 n a (omega arith) h.1, below_spans h.0 d high n (omega arith) b h.2)
below_spans low (Not c) high n a b h = below_spans low c high n a b h
