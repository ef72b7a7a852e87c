-- Numbers of events, taken apart.
use Rattle.std.proofs.Common.{◌≡◌, ◌≢◌, ℕ, ◌+◌, ◌-◌, ◌*◌, ◌/◌, ◌%◌, ◌^◌, ◌<◌, ◌≤◌, ◌==◌, Option, Some, sym, ap, ◌∙◌, arith}
use Rattle.std.specs.Prelude.{unwrap_or, codes}
use Rattle.std.proofs.Math.Nat.{div-add-mod, div-lt_iff_lt-mul, mod-lt}
use Rattle.std.proofs.lemmas.Bool.{cond-false, ne_eqb}
use Rattle.za_alpha.specs.declared.word.Letter.{Letter}
use Rattle.za_alpha.specs.Alphabet.{DistributedAlphabet}
use Rattle.za_order.specs.Labels.{number_of, label_bound}
use Rattle.za_write.specs.Events.{event_word, number_word}

-- a number other than 0 is that of its letter and its label
pub number-parts : (n v : ℕ) → v ≢ 0 → v ≡ number_of n ((v - 1) / (n ^ 3 + 1)) ((v - 1) % (n ^ 3 + 1))
number-parts n v ne =
    let e : (n ^ 3 + 1) * ((v - 1) / (n ^ 3 + 1)) + (v - 1) % (n ^ 3 + 1) ≡ v - 1 = div-add-mod (v - 1) (n ^ 3 + 1) in
    grind arith

pub number-small : (n v : ℕ) → (v - 1) % (n ^ 3 + 1) ≤ n ^ 3
number-small n v = let l = mod-lt (v - 1) {m = n ^ 3 + 1} (omega arith) in omega arith

-- and its letter is below m, where the number is at most that of the last label of the last of m letters
pub number-within : (n m v : ℕ) → v ≢ 0 → v ≤ label_bound m n → (v - 1) / (n ^ 3 + 1) < m
number-within n m v ne l = (div-lt_iff_lt-mul {k = n ^ 3 + 1} {x = v - 1} {y = m} (omega arith)).1 (omega arith)

-- the letter and the label that calls answer of a number
pub letter-is : (n v : ℕ) (o : Option Letter) (a : Letter) → o ≡ Some a → ((b k : ℕ) → k ≤ n ^ 3 → v ≡ number_of n b k → o ≡ Some (record { 0 = b })) → v ≢ 0
    → a.0 ≡ (v - 1) / (n ^ 3 + 1)
letter-is n v o a e inverse some =
    ap (λ (x : Option Letter). (unwrap_or x a).0) (sym e ∙ inverse ((v - 1) / (n ^ 3 + 1)) ((v - 1) % (n ^ 3 + 1)) (number-small n v) (number-parts n v some))

pub label-is : (n v : ℕ) (o : Option ℕ) (l : ℕ) → o ≡ Some l → ((b k : ℕ) → k ≤ n ^ 3 → v ≡ number_of n b k → o ≡ Some k) → v ≢ 0 → l ≡ (v - 1) % (n ^ 3 + 1)
label-is n v o l e inverse some =
    ap (λ (x : Option ℕ). unwrap_or x l) (sym e ∙ inverse ((v - 1) / (n ^ 3 + 1)) ((v - 1) % (n ^ 3 + 1)) (number-small n v) (number-parts n v some))

-- a number other than 0 as a word
pub word-of-some : (alphabet : DistributedAlphabet) (v : ℕ) → v ≢ 0 →
    number_word alphabet v ≡ event_word alphabet ((v - 1) / (alphabet.processes ^ 3 + 1)) ((v - 1) % (alphabet.processes ^ 3 + 1))
word-of-some alphabet v some =
    cond-false (v == 0) (codes "-") (event_word alphabet ((v - 1) / (alphabet.processes ^ 3 + 1)) ((v - 1) % (alphabet.processes ^ 3 + 1))) (ne_eqb v 0 some)
