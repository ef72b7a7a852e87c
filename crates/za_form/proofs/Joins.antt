-- One row of a table gets more places.
use Rattle.std.proofs.Common.{◌≡◌, ◌≢◌, ℕ, ◌<◌, ◌^◌, ◌/◌, ◌&&◌, ◌||◌, Bool, true, false, List, length, bit_and, bit_or, get_or, refl, sym, ap, ◌∙◌}
use Rattle.std.proofs.Common.{get_or-set_same, get_or-set_other, eq-eqb}
use Rattle.std.proofs.Math.ListN.{set}
use Rattle.std.specs.Int.{bit_at}
use Rattle.std.proofs.lemmas.Bool.{ne_eqb}
use Rattle.std.proofs.lemmas.Nat.Bits.{shr_and_one}
use Rattle.za_form.specs.Private.Numbers.{has_bit}
use Rattle.za_form.proofs.BitSets.{has_bit-or}

abbrev pub Row : List ℕ → List ℕ → ℕ → ℕ → ℕ → Type 0
Row old next from to p = (q : ℕ) → has_bit (get_or next p 0) q ≡ (has_bit (get_or old p 0) q || (has_bit from p && has_bit to q))

and_true : (a b : Bool) → a ≡ true → b ≡ (a && b)
and_true true b h = refl
and_true false b h = cc

or_false : (a b c : Bool) → b ≡ false → a ≡ (a || (b && c))
or_false true b c h = refl
or_false false true c h = cc
or_false false false c h = refl

pub row_added : (old now next : List ℕ) (from to i : ℕ) → i < length now → bit_and (from / 2 ^ i) 1 ≡ 1 → get_or now i 0 ≡ get_or old i 0 →
    next ≡ set now i (bit_or (get_or now i 0) to) → Row old next from to i
row_added old now next from to i l h r e q =
    let g : get_or next i 0 ≡ bit_or (get_or old i 0) to = ap (λ x. get_or x i 0) e ∙ (rw get_or-set_same (ap (λ x. bit_or x to) r)) in
    let t : has_bit from i ≡ true = eq-eqb (bit_at from i) 1 (sym (shr_and_one from i) ∙ h) in
    ap (λ x. has_bit x q) g ∙ (has_bit-or (get_or old i 0) to q ∙ ap (λ b. has_bit (get_or old i 0) q || b) (and_true (has_bit from i) (has_bit to q) t))

pub row_kept : (old next : List ℕ) (from to i : ℕ) → (bit_and (from / 2 ^ i) 1 ≡ 1 → ⊥) → get_or next i 0 ≡ get_or old i 0 → Row old next from to i
row_kept old next from to i h r q =
    let t : has_bit from i ≡ false = ne_eqb (bit_at from i) 1 (λ e. h (shr_and_one from i ∙ e)) in
    ap (λ x. has_bit x q) r ∙ or_false (has_bit (get_or old i 0) q) (has_bit from i) (has_bit to q) t

pub other_row : (now next : List ℕ) (i v p : ℕ) → next ≡ set now i v → p ≢ i → get_or next p 0 ≡ get_or now p 0
other_row now next i v p e ne = ap (λ x. get_or x p 0) e ∙ (rw get_or-set_other refl)
