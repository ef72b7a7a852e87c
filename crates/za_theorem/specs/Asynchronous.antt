-- Deterministic asynchronous automata over a distributed alphabet (Zielonka 1987). `loc a` are the participants of the
-- letter a, in order; letters, processes and local states are numbers.
use Rattle.std.specs.Prelude.{ℕ, ◌<◌, Bool, List, IsTrue, map, if◌then◌else◌}
use Rattle.std.specs.List.{range_with_len}
use Rattle.za_alpha.specs.Words.{has}
use Rattle.za_dfa.specs.Automata.{walk}

-- the local states of process p are the numbers below `states p`, and it starts in `start p`; where the participants of
-- the letter a are in the local states xs, in order, a leads its participant p to `next a xs p`; `accepts` says which
-- global states, the lists of the local states of all processes, accept
pub record Asynchronous : Type 0 where
  pub states : ℕ → ℕ
  pub start : ℕ → ℕ
  pub next : ℕ → List ℕ → ℕ → ℕ
  pub accepts : List ℕ → Bool

-- each process starts in one of its local states, and from local states of its participants each letter leads each of
-- them to one of its own
pub record IsAsynchronous (loc : ℕ → List ℕ) (letters processes : ℕ) (z : Asynchronous) : Type 0 where
  pub starts : (p : ℕ) → p < processes → z.start p < z.states p
  pub steps : (a p : ℕ) (g : ℕ → ℕ) → a < letters → IsTrue (has (loc a) p) →
      ((q : ℕ) → IsTrue (has (loc a) q) → g q < z.states q) → z.next a (map g (loc a)) p < z.states p

-- the local states of all processes after the letter a, from those before it, g: the participants of a move, by their
-- local states alone, and all other processes stay
abbrev pub moved : (ℕ → List ℕ) → Asynchronous → (ℕ → ℕ) → ℕ → ℕ → ℕ
moved loc z g a p = if has (loc a) p then z.next a (map g (loc a)) p else g p

-- the local state of each process after the word
abbrev pub global_after : (ℕ → List ℕ) → Asynchronous → List ℕ → ℕ → ℕ
global_after loc z w = walk (moved loc z) z.start w

-- whether the word leads to a global state that accepts
abbrev pub accepts_word : (ℕ → List ℕ) → ℕ → Asynchronous → List ℕ → Bool
accepts_word loc processes z w = z.accepts (map (global_after loc z w) (range_with_len 0 processes))
