-- The first broken diamond of a letter, and of a state.
use Rattle.std.specs.Prelude.{ℕ, ◌<◌, List}
use Rattle.za_dfa.specs.Automata.{Automaton}
use Rattle.za_dfa.specs.Diamonds.{IsBrokenAt}

-- b is the least letter with which a has a broken diamond at q
pub record IsFirstRight (loc : ℕ → List ℕ) (d : Automaton) (q a b : ℕ) : Type 0 where
  pub is : IsBrokenAt loc d q a b
  pub least_right : (y : ℕ) → y < b → ¬ IsBrokenAt loc d q a y

-- and a is the least letter that has one at q
pub record IsFirstLeft (loc : ℕ → List ℕ) (d : Automaton) (q a b : ℕ) : Type 0 where
  pub right : IsFirstRight loc d q a b
  pub least_left : (x y : ℕ) → x < a → ¬ IsBrokenAt loc d q x y
