-- Values as numbers: bit p stands for place p, and bit 0 for the start.
use Rattle.std.specs.Prelude.{ℕ, zero, suc, ◌+◌, ◌*◌, ◌^◌, Bool, ◌&&◌, ◌==◌, nat_lt, cond}
use Rattle.std.specs.Prelude.{List, filter, length, unwrap_or}
use Rattle.std.specs.List.{list_any, range_with_len}
use Rattle.std.specs.Int.{bit_at}
use Rattle.za_dfa.specs.Automata.{Automaton}
use Rattle.za_expression.specs.declared.sign.Sign.{Sign}
use Rattle.za_expression.specs.Plain.{One}
use Rattle.za_expression.specs.Forms.{Form, Part}
use Rattle.za_expression.specs.Following.{goes, accepts}
use Rattle.za_expression.specs.Private.Machine.{parsed}
use Rattle.za_form.specs.Expressions.{letter_at}

-- the number whose bits below n are those that pass
abbrev pub bits_of : (ℕ → Bool) → ℕ → ℕ
bits_of test zero = 0
bits_of test (suc n) = cond (test n) 1 0 * 2 ^ n + bits_of test n

abbrev pub has_bit : ℕ → ℕ → Bool
has_bit m p = bit_at m p == 1

-- the start and the places up to n that the number stands for
abbrev pub places_of : ℕ → ℕ → List ℕ
places_of n m = filter (λ p. has_bit m p) (range_with_len 0 (suc n))

abbrev pub position_step : Form → (ℕ → ℕ) → ℕ → ℕ → ℕ → ℕ
position_step f letter n m a =
    bits_of (λ q. nat_lt 0 q && (letter q == a && list_any (λ p. goes f p q) (places_of n m))) (suc n)

-- the automaton of all values
abbrev pub positions : Form → (ℕ → ℕ) → ℕ → ℕ → Automaton
positions f letter n letters = record {
  states = 2 ^ suc n;
  letters = letters;
  start = 1;
  step = λ m a. position_step f letter n m a;
  accepts = λ m. accepts f (places_of n m);
}

-- the form that signs are
abbrev pub form_of : List Sign → Form
form_of signs = unwrap_or (parsed signs) (Part One)

-- the automaton of all values of an expression, over so many letters
abbrev pub positions_of : List Sign → ℕ → Automaton
positions_of signs letters = positions (form_of signs) (letter_at signs) (length signs) letters
