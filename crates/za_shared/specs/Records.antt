-- The local states of all processes, which processes and cached transitions share.
use Rattle.std.specs.Prelude.{◌≡◌, ℕ, ◌+◌, ◌*◌, ◌^◌, ◌<◌, ◌≤◌, ◌⊎◌, All, List, [], ◌∷◌, ◌++◌, length, map, slice_index}
use Rattle.std.specs.Prelude.{None, IsTrue, IsFalse}
use Rattle.std.specs.Map.{lookup}
use Rattle.za_alpha.specs.Words.{has}
use Rattle.za_alpha.specs.Alphabet.{loc_of}
use Rattle.za_dfa.specs.Tables.{CompleteDfa, IsComplete}
use Rattle.za_local.specs.Locals.{LocalState, local_after, AreLocalsAfter, AreAllLocalsAfter, HasShape}
use Rattle.za_records.specs.Shelf.{Shelf, count, live}
use Rattle.za_cache.specs.Lines.{LineKey, line_key, is_key}
use Rattle.za_shared.specs.Holders.{value, holders}

-- the automaton, the greatest number of lines, the records, the key that the call in progress holds, the key of each
-- process, the lines with the most recently used first, and the records that are spare
pub record Records : Type 0 where
  pub dfa : CompleteDfa
  pub cache : ℕ
  pub shelf : Shelf LocalState
  pub own : List ℕ
  pub keys : List ℕ
  pub lines : List (LineKey × ℕ)
  pub spares : List LocalState

-- how many records there may be
abbrev pub bound : ℕ → ℕ → ℕ
bound processes cache = processes + 1 + (processes + 1) * cache

-- the local states of all processes in order
abbrev pub locals_of : Records → List LocalState
locals_of r = map (value r.shelf) r.keys

-- there is a word after which the processes have these local states
abbrev pub AreOfAWord : Records → Type 0
AreOfAWord r = (w : List ℕ) × AreAllLocalsAfter r.dfa w (locals_of r)

-- the output is the transition of the inputs by the letter, whatever word has led to them
abbrev pub IsTransition : CompleteDfa → ℕ → List LocalState → LocalState → Type 0
IsTransition d a inputs output =
    (w : List ℕ) → AreLocalsAfter d w (loc_of d.alphabet a) inputs →
    (x : ℕ) → IsTrue (has (loc_of d.alphabet a) x) → output ≡ local_after d (w ++ a ∷ []) x

-- a line has at most one input for each process, and its output is the transition of its inputs
pub record IsLine (d : CompleteDfa) (s : Shelf LocalState) (line : LineKey × ℕ) : Type 0 where
  pub short : length line.0.inputs ≤ d.alphabet.processes
  pub transition : IsTransition d line.0.letter (map (value s) line.0.inputs) (value s line.1)

-- each key has as many holders as it counts, live records have different values, all are of one shape, and each record
-- is live or spare
pub record AreRecords (r : Records) : Type 0 where
  pub complete : IsComplete r.dfa
  pub keys_size : length r.keys ≡ r.dfa.alphabet.processes
  pub own_few : length r.own ≤ 1
  pub counts : (k : ℕ) → count r.shelf k ≡ holders r.own r.keys r.lines k
  pub apart : (k l : ℕ) → 0 < count r.shelf k → 0 < count r.shelf l → value r.shelf k ≡ value r.shelf l → k ≡ l
  pub shaped : (k : ℕ) → 0 < count r.shelf k → HasShape r.dfa.alphabet.processes r.dfa.states (value r.shelf k)
  pub spares_shaped : All (HasShape r.dfa.alphabet.processes r.dfa.states) r.spares
  pub whole : live r.shelf + length r.spares ≡ bound r.dfa.alphabet.processes r.cache
  pub capacity : r.shelf.capacity ≡ bound r.dfa.alphabet.processes r.cache
  pub lines_few : length r.lines ≤ r.cache
  pub cache_few : r.cache < 2 ^ 8
  pub lines : All (IsLine r.dfa r.shelf) r.lines

-- no letter has fired
pub record AreOpened (d : CompleteDfa) (cache : ℕ) (r : Records) : Type 0 where
  pub dfa : r.dfa ≡ d
  pub cache_is : r.cache ≡ cache
  pub free : r.own ≡ []
  pub records : AreRecords r
  pub locals : AreAllLocalsAfter r.dfa [] (locals_of r)

-- where a firing met a cache: its line stands first, or no line had its key and the lines are as they were
abbrev pub IsRemembered : ℕ → List (LineKey × ℕ) → List (LineKey × ℕ) → ℕ → List ℕ → ℕ → Type 0
IsRemembered cache old new a inputs output =
    0 < cache →
    ((rest : List (LineKey × ℕ)) × (new ≡ (line_key a inputs, output) ∷ rest))
    ⊎ ((lookup (is_key a inputs) old ≡ None) × (new ≡ old))

-- the processes have the local states after the letter, whatever word has led to those before; its participants have
-- one key and all others theirs; and a cache has met the firing
pub record HasFired (old new : Records) (a : ℕ) : Type 0 where
  pub free : new.own ≡ []
  pub dfa : new.dfa ≡ old.dfa
  pub cache : new.cache ≡ old.cache
  pub locals : (w : List ℕ) → AreAllLocalsAfter old.dfa w (locals_of old) →
      AreAllLocalsAfter new.dfa (w ++ a ∷ []) (locals_of new)
  pub key : ℕ
  pub participants : (p : ℕ) → IsTrue (has (loc_of old.dfa.alphabet a) p) → slice_index new.keys p ≡ key
  pub others : (p : ℕ) → IsFalse (has (loc_of old.dfa.alphabet a) p) → slice_index new.keys p ≡ slice_index old.keys p
  pub lines :
      IsRemembered old.cache old.lines new.lines a (map (λ p. slice_index old.keys p) (loc_of old.dfa.alphabet a)) key
