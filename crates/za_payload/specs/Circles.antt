-- What contracts see of a circle, and the circle after a word.
use Rattle.std.specs.Prelude.{◌≡◌, ℕ, ◌<◌, List, [], length, slice_index, slice_index_or, Option, None}
use Rattle.std.specs.List.{range_with_len}
use Rattle.za_alpha.specs.Alphabet.{DistributedAlphabet, loc_of}
use Rattle.za_gossip.specs.Rows.{Rows, AreRowsAfter}
use Rattle.za_payload.specs.Knowledge.{known_after}

-- for each process the rows that it keeps, and what it knows of each process
pub record CircleState : Type 0 where
  pub processes : ℕ
  pub rows : List Rows
  pub known : List (List (Option ℕ))

-- what p knows of q
abbrev pub known_in : List (List (Option ℕ)) → ℕ → ℕ → Option ℕ
known_in known p q = slice_index_or (slice_index_or known p []) q None

-- the circle is that after the word, whose events have written these values: each process keeps the rows and knows the
-- numbers that it has then
pub record IsCircleAfter (alphabet : DistributedAlphabet) (w values : List ℕ) (circle : CircleState) : Type 0 where
  pub processes : circle.processes ≡ alphabet.processes
  pub one_each : length values ≡ length w
  pub rows : AreRowsAfter alphabet w (range_with_len 0 alphabet.processes) circle.rows
  pub known :
      (p q : ℕ) → p < alphabet.processes → q < alphabet.processes →
      known_in circle.known p q ≡ known_after (loc_of alphabet) w (slice_index values) p q

-- the circle is that after some word and some values
abbrev pub IsCircle : DistributedAlphabet → CircleState → Type 0
IsCircle alphabet circle = (w values : List ℕ) × IsCircleAfter alphabet w values circle
