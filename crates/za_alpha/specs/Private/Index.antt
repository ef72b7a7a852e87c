-- An index of names: chains of the letters whose names have the same key, from the last letter to the first.
use Rattle.std.specs.Prelude.{◌≡◌, ◌≢◌, ℕ, suc, ◌+◌, ◌*◌, ◌%◌, ◌<◌, ◌≤◌, List, fold, length, slice_index}
use Rattle.za_alpha.specs.declared.index.Index.{Index}
use Rattle.za_alpha.specs.Limits.{most_letters}
use Rattle.za_alpha.specs.Alphabet.{NamedLetter, name_at}

-- how many keys there are
abbrev pub keys : ℕ
keys = 256

-- the key of a name, made byte by byte
abbrev pub key_of : List ℕ → ℕ
key_of name = fold (λ key b. (key * 37 + b) % keys) 0 name

-- the first `count` letters, of which `key` tells the keys, on their chains: `first` has for each key the last letter
-- that has it, and `next` for each letter the last one before it that has its key; each as one more than its place, and
-- 0 where there is none
pub record AreChains (key : ℕ → ℕ) (count : ℕ) (first next : List ℕ) : Type 0 where
  pub firsts : length first ≡ keys
  pub nexts : length next ≡ most_letters
  pub few : count ≤ most_letters
  pub first_low : (k : ℕ) → k < keys → slice_index first k ≤ count
  pub first_key : (k i : ℕ) → k < keys → slice_index first k ≡ suc i → key i ≡ k
  pub first_skips : (k j : ℕ) → k < keys → slice_index first k ≤ j → j < count → key j ≢ k
  pub next_low : (i : ℕ) → i < count → slice_index next i ≤ i
  pub next_key : (i j : ℕ) → i < count → slice_index next i ≡ suc j → key j ≡ key i
  pub next_skips : (i j : ℕ) → i < count → slice_index next i ≤ j → j < i → key j ≢ key i

-- the key of the letter at a place
abbrev pub key_at : List NamedLetter → ℕ → ℕ
key_at letters i = key_of (name_at letters i)

-- the chains of all letters
abbrev pub IsIndex : List NamedLetter → Index → Type 0
IsIndex letters index = AreChains (key_at letters) (length letters) index.first index.next
