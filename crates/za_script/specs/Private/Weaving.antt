-- What the state of a weaving means: for each process the place in its script, and for each letter the
-- set of the processes whose next letter it is.
use Rattle.std.specs.Prelude.{◌≡◌, ℕ, ◌<◌, List, length, slice_index, slice_index_or}
use Rattle.za_alpha.specs.declared.procs.Procs.{Procs}
use Rattle.za_alpha.specs.Words.{has}
use Rattle.za_alpha.specs.Procs.{members, no_process}
use Rattle.za_alpha.specs.Alphabet.{DistributedAlphabet, loc_of}
use Rattle.za_script.specs.Scripts.{comes_next}

-- the set of a letter: empty where there is none
abbrev pub set_at : List Procs → ℕ → List ℕ
set_at sets a = members (slice_index_or sets a no_process)

-- each letter's set has the processes whose next letter it is, and no others
pub record IsReady (scripts : ℕ → List ℕ) (places : List ℕ) (sets : List Procs) : Type 0 where
  pub next : (a p : ℕ) → a < length sets → has (set_at sets a) p ≡ comes_next (scripts p) (slice_index places p) a

-- the letter's set has all of its processes, and no others
pub record IsGathered (alphabet : DistributedAlphabet) (sets : List Procs) (a : ℕ) : Type 0 where
  pub same : (p : ℕ) → has (set_at sets a) p ≡ has (loc_of alphabet a) p

-- the letter is the least that is complete
pub record IsLeastGathered (alphabet : DistributedAlphabet) (sets : List Procs) (a : ℕ) : Type 0 where
  pub letter : a < length alphabet.letters
  pub complete : IsGathered alphabet sets a
  pub below : (b : ℕ) → b < a → IsGathered alphabet sets b → ⊥

-- no letter is complete
pub record NoneGathered (alphabet : DistributedAlphabet) (sets : List Procs) : Type 0 where
  pub none : (a : ℕ) → a < length alphabet.letters → IsGathered alphabet sets a → ⊥
