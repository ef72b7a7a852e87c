-- Broken diamonds of an automaton, and the first one.
use Rattle.std.specs.Prelude.{◌≢◌, ℕ, ◌<◌, List, IsTrue}
use Rattle.za_alpha.specs.Words.{independent}
use Rattle.za_dfa.specs.Automata.{Automaton}

-- a broken diamond: a state from which two independent letters lead to two states, by their order
pub record BreaksDiamond (loc : ℕ → List ℕ) (d : Automaton) : Type 0 where
  pub state : ℕ
  pub left : ℕ
  pub right : ℕ
  pub is_state : state < d.states
  pub is_left : left < d.letters
  pub is_right : right < d.letters
  pub apart : IsTrue (independent loc left right)
  pub parted : d.step (d.step state left) right ≢ d.step (d.step state right) left

-- two independent letters, the lesser first, lead from q to two states by their order
pub record IsBrokenAt (loc : ℕ → List ℕ) (d : Automaton) (q a b : ℕ) : Type 0 where
  pub order : a < b
  pub letter : b < d.letters
  pub apart : IsTrue (independent loc a b)
  pub parted : d.step (d.step q a) b ≢ d.step (d.step q b) a

-- the first broken diamond: q is the least state that has one, a the least lesser letter of those at q,
-- and b the least greater letter of those at q with a
pub record IsFirstBroken (loc : ℕ → List ℕ) (d : Automaton) (q a b : ℕ) : Type 0 where
  pub state : q < d.states
  pub is : IsBrokenAt loc d q a b
  pub least_state : (p x y : ℕ) → p < q → ¬ IsBrokenAt loc d p x y
  pub least_left : (x y : ℕ) → x < a → ¬ IsBrokenAt loc d q x y
  pub least_right : (y : ℕ) → y < b → ¬ IsBrokenAt loc d q a y
