-- What a process keeps of its entries (Mukund and Sohoni 1997): the rows of their numbers.
use Rattle.std.specs.Prelude.{◌≡◌, ℕ, ◌*◌, List, flat_map, map, length, replicate, take, drop}
use Rattle.std.specs.List.{range_with_len}
use Rattle.za_alpha.specs.Words.{IsWord}
use Rattle.za_alpha.specs.Alphabet.{DistributedAlphabet, loc_of}
use Rattle.za_order.specs.Locals.{Ids, ids}

-- three rows: for each process, for each pair and for each triple of processes
pub record Rows : Type 0 where
  pub primary : List ℕ
  pub secondary : List ℕ
  pub tertiary : List ℕ

-- the rows of these numbers
abbrev pub rows_of : ℕ → Ids → Rows
rows_of processes known =
    let range = range_with_len 0 processes in
    record {
      primary = map known.primary range;
      secondary = flat_map (λ q. map (known.secondary q) range) range;
      tertiary = flat_map (λ q. flat_map (λ r. map (known.tertiary q r) range) range) range;
    }

-- the rows of p after the word
abbrev pub rows_after : (ℕ → List ℕ) → ℕ → List ℕ → ℕ → Rows
rows_after loc processes w p = rows_of processes (ids loc processes w (length w) p)

-- the word is over the alphabet, and these are the rows of the processes xs after it, in their order
pub record AreRowsAfter (alphabet : DistributedAlphabet) (w xs : List ℕ) (inputs : List Rows) : Type 0 where
  pub word : IsWord (length alphabet.letters) w
  pub rows : inputs ≡ map (rows_after (loc_of alphabet) alphabet.processes w) xs

-- no event is known
abbrev pub blank_rows : ℕ → Rows
blank_rows processes = record {
  primary = replicate processes 0;
  secondary = replicate (processes * processes) 0;
  tertiary = replicate (processes * processes * processes) 0;
}

-- the rows have an entry for each process, each pair and each triple
pub record AreShaped (rows : Rows) : Type 0 where
  pub secondary : length rows.secondary ≡ length rows.primary * length rows.primary
  pub tertiary : length rows.tertiary ≡ length rows.primary * length rows.primary * length rows.primary

-- the part of a list that is its q-th block of m
abbrev pub block_at : ℕ → List ℕ → ℕ → List ℕ
block_at m xs q = take m (drop (q * m) xs)
