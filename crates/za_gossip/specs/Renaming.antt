-- Other numbers in place of the numbers of events.
use Rattle.std.specs.Prelude.{◌≡◌, ℕ}
use Rattle.za_order.specs.Labels.{number_of}
use Rattle.za_order.specs.Locals.{Ids}

-- each number has a number of its own, and 0, for no event, has 0
pub record IsRenaming (rename : ℕ → ℕ) : Type 0 where
  pub apart : (i j : ℕ) → rename i ≡ rename j → i ≡ j
  pub none : rename 0 ≡ 0

-- the numbers of the letter stay
abbrev pub KeepsLetter : ℕ → ℕ → (ℕ → ℕ) → Type 0
KeepsLetter processes letter rename = (k : ℕ) → rename (number_of processes letter k) ≡ number_of processes letter k

-- the same entries by their other numbers
abbrev pub renamed : (ℕ → ℕ) → Ids → Ids
renamed rename known = record {
  primary = λ q. rename (known.primary q);
  secondary = λ q r. rename (known.secondary q r);
  tertiary = λ q r s. rename (known.tertiary q r s);
}
