-- A generated word has each letter in two scripts at most.
use Rattle.std.proofs.Common.{◌≡◌, ℕ, suc, ◌+◌, ◌*◌, ◌<◌, ◌≤◌, true, inl, inr, List, [], ◌∷◌, length, refl, ap, ◌∙◌, arith, leb-true}
use Rattle.std.specs.Prelude.{nat_le, if◌then◌else◌}
use Rattle.std.specs.List.{list_all, range_with_len}
use Rattle.std.proofs.lemmas.Bool.{cases_Bool}
use Rattle.std.proofs.lemmas.List.Elements.{All-head, All-tail}
use Rattle.za_alpha.specs.Procs.{members_below}
use Rattle.za_alpha.specs.Words.{has, projection, IsWord}
use Rattle.za_alpha.specs.Alphabet.{loc_of}
use Rattle.za_script.specs.Scripts.{total}
use Rattle.za_script.specs.ScriptLists.{script_of, total_of}
use Rattle.za_script.proofs.Totals.{total-same}
use Rattle.za_gen.specs.Generated.{generated_alphabet, generated_scripts}
use Rattle.za_gen.proofs.Each.{test-each}
use Rattle.za_gen.proofs.Fitting.{script-is, scripts-size}

abbrev loc : ℕ → List ℕ
loc a = loc_of generated_alphabet a

-- how often the process sees the letter
abbrev seen : ℕ → ℕ → ℕ
seen a p = if has (loc a) p then 1 else 0

all-two : list_all (λ a. nat_le (seen a 0 + seen a 1 + seen a 2 + seen a 3) 2) (range_with_len 0 8) ≡ true
unfolding members_below
all-two = refl

seen-length : (p a : ℕ) (w : List ℕ) → length (projection loc p (a ∷ w)) ≡ seen a p + length (projection loc p w)
seen-length p a w =
    elim (cases_Bool (has (loc a) p)) [
      | inl t ↦ rw t (omega arith)
      | inr f ↦ rw f (omega arith)
    ]

add-four : (x y z u a b c d e f g h n : ℕ) → x ≡ a + e → y ≡ b + f → z ≡ c + g → u ≡ d + h → a + b + c + d ≤ 2 → e + f + g + h ≤ 2 * n →
    x + y + z + u ≤ 2 * suc n
add-four x y z u a b c d e f g h n p q r s two few = omega arith

four-few : (w : List ℕ) → IsWord 8 w →
    length (projection loc 0 w) + length (projection loc 1 w) + length (projection loc 2 w) + length (projection loc 3 w) ≤ 2 * length w
four-few [] h = omega arith
four-few (a ∷ w) h =
    let two = leb-true (seen a 0 + seen a 1 + seen a 2 + seen a 3) 2 (test-each (λ b. nat_le (seen b 0 + seen b 1 + seen b 2 + seen b 3) 2) 8 a all-two
    (All-head (λ b. b < 8) a w h)) in
    add-four (length (projection loc 0 (a ∷ w))) (length (projection loc 1 (a ∷ w))) (length (projection loc 2 (a ∷ w))) (length (projection loc 3 (a ∷ w)))
    (seen a 0) (seen a 1) (seen a 2) (seen a 3)
    (length (projection loc 0 w)) (length (projection loc 1 w)) (length (projection loc 2 w)) (length (projection loc 3 w)) (length w)
    (seen-length 0 a w) (seen-length 1 a w) (seen-length 2 a w) (seen-length 3 a w) two (four-few w (All-tail (λ b. b < 8) a w h))

total-four : (f : ℕ → List ℕ) → total f 4 ≡ length (f 0) + length (f 1) + length (f 2) + length (f 3)
total-four f = omega arith

-- scripts that are what the processes see of a word have at most two letters for each of it
pub total-few : (w : List ℕ) → IsWord 8 w → (scripts : List (List ℕ)) → length scripts ≡ 4 → ((p : ℕ) → p < 4 → script_of scripts p ≡ projection loc p w) →
    total_of scripts ≤ 2 * length w
total-few w h scripts size sees =
    let all : total_of scripts ≡ total (λ p. projection loc p w) 4 =
    ap (total (script_of scripts)) size ∙ total-same (script_of scripts) (λ p. projection loc p w) 4 (λ p l. ap (λ (s : List ℕ). length s) (sees p l)) in
    let four = total-four (λ p. projection loc p w) in
    let few = four-few w h in
    omega arith

pub generated-few : (w : List ℕ) → IsWord 8 w → total_of (generated_scripts w) ≤ 2 * length w
generated-few w h = total-few w h (generated_scripts w) (scripts-size w) (script-is w)
