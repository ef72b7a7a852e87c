-- What the steps of a firing do to the shelf, the keys and the spare records.
use Rattle.std.specs.Prelude.{◌≡◌, ℕ, ◌+◌, ◌-◌, ◌<◌, ◌==◌, ◌&&◌, ◌⊎◌, not, take, All, cond, List, [], ◌∷◌}
use Rattle.std.specs.Prelude.{length, map, count_by, nat_lt, slice_index, slice_index_or}
use Rattle.za_alpha.specs.Words.{has}
use Rattle.za_alpha.specs.Alphabet.{loc_of}
use Rattle.za_records.specs.Shelf.{Shelf, count, live}
use Rattle.za_cache.specs.declared.rows.Kept.{Kept}
use Rattle.za_cache.specs.declared.rows.Kept.TheVariants.{Stored, Replaced, Refused}
use Rattle.za_dfa.specs.Tables.{CompleteDfa}
use Rattle.za_local.specs.Locals.{LocalState, HasShape}
use Rattle.za_local.specs.Benches.{LocalStates}
use Rattle.za_shared.specs.Holders.{no_local, value, values_at, is_named}
use Rattle.za_shared.specs.Records.{Records, IsTransition, IsRemembered}

-- 1 for the key itself
abbrev pub one : ℕ → ℕ → ℕ
one key k = cond (key == k) 1 0

-- 1 for a key that the line names
abbrev pub named_by_line : List ℕ → ℕ → ℕ → ℕ
named_by_line inputs output k = cond (is_named inputs output k) 1 0

-- 1 for a key that is not the output and stands among the first i inputs
abbrev pub named_before : List ℕ → ℕ → ℕ → ℕ → ℕ
named_before inputs output i k = cond (has (take i inputs) k && not (output == k)) 1 0

-- 1 for a key that the line names which rows hand back
abbrev pub named_by : Kept → ℕ → ℕ
named_by Stored k = 0
named_by (Replaced line) k = named_by_line line.inputs.items line.output k
named_by (Refused line) k = named_by_line line.inputs.items line.output k

-- the keys have so many holders more, and their values stay
pub record HaveMore (old new : Shelf LocalState) (more : ℕ → ℕ) : Type 0 where
  pub counts : (k : ℕ) → count new k ≡ count old k + more k
  pub values : (k : ℕ) → value new k ≡ value old k
  pub live : live new ≡ live old
  pub capacity : new.capacity ≡ old.capacity

-- the keys have so many holders fewer; values without holders are spare from then on, and the others stay
pub record HaveFewer (old new : Shelf LocalState) (before after : List LocalState) (fewer : ℕ → ℕ) : Type 0 where
  pub counts : (k : ℕ) → count new k + fewer k ≡ count old k
  pub values : (k : ℕ) → 0 < count new k → value new k ≡ value old k
  pub whole : live new + length after ≡ live old + length before
  pub capacity : new.capacity ≡ old.capacity
  pub shaped : (n m : ℕ) → ((k : ℕ) → 0 < count old k → HasShape n m (value old k)) →
      All (HasShape n m) before → All (HasShape n m) after

-- keys have changed: the counts follow, and values without holders are spare from then on
pub record HaveChanged (old new : Shelf LocalState) (before after : List LocalState) (keys changed : List ℕ)
    : Type 0 where
  pub counts : (k : ℕ) →
      count new k + count_by (λ x. x == k) keys ≡ count old k + count_by (λ x. x == k) changed
  pub none_new : (k : ℕ) → 0 < count new k → 0 < count old k
  pub values : (k : ℕ) → 0 < count new k → value new k ≡ value old k
  pub whole : live new + length after ≡ live old + length before
  pub capacity : new.capacity ≡ old.capacity
  pub shaped : (n m : ℕ) → ((k : ℕ) → 0 < count old k → HasShape n m (value old k)) →
      All (HasShape n m) before → All (HasShape n m) after

-- these processes have this key, as far as p
abbrev pub key_given : List ℕ → ℕ → ℕ → List ℕ → ℕ → ℕ
key_given ps key p keys q = cond (nat_lt q p && has ps q) key (slice_index keys q)

-- how many of these processes have the key
abbrev pub held_by : List ℕ → List ℕ → ℕ → ℕ
held_by keys ps k = count_by (λ p. slice_index keys p == k) ps

-- these processes have this key in place of theirs, and each key so many holders more or fewer
pub record HaveTurned (old new ps : List ℕ) (key : ℕ) : Type 0 where
  pub size : length new ≡ length old
  pub keys : (p : ℕ) → slice_index new p ≡ key_given ps key (length old) old p
  pub counts : (k : ℕ) → count_by (λ x. x == k) new + held_by old ps k ≡
      count_by (λ x. x == k) old + cond (key == k) (length ps) 0

-- so many holders more have a key with the value: where a live key has it that one, else the value is put under a new
-- one. Otherwise the value is spare
pub record HasShelved (old new : Shelf LocalState) (before after : List LocalState) (made : LocalState) (more key : ℕ)
    : Type 0 where
  pub counts : (k : ℕ) → count new k ≡ count old k + cond (key == k) more 0
  pub is : value new key ≡ made
  pub values : (k : ℕ) → 0 < count old k → value new k ≡ value old k
  pub fresh : (0 < count old key) ⊎ ((k : ℕ) → 0 < count old k → value old k ≡ made → ⊥)
  pub whole : live new + length after ≡ live old + length before + 1
  pub capacity : new.capacity ≡ old.capacity
  pub shaped : (n m : ℕ) → HasShape n m made → All (HasShape n m) before → All (HasShape n m) after

-- the last of a list
abbrev pub last_of : List LocalState → LocalState
last_of xs = slice_index_or xs (length xs - 1) no_local

-- the call holds a key with the value of the last spare record; that is live before, or it is the spare
pub record HasAdopted (old new : Records) : Type 0 where
  pub key : ℕ
  pub own : new.own ≡ key ∷ []
  pub rest : new ≡ record old { shelf = new.shelf; own = new.own; spares = new.spares }
  pub is : value new.shelf key ≡ last_of old.spares
  pub values : (k : ℕ) → 0 < count old.shelf k → (0 < count new.shelf k) × (value new.shelf k ≡ value old.shelf k)

-- the call holds a key with the value of the last spare record, and a cache has met the transition
pub record HasEntered (old new : Records) (a : ℕ) (inputs : List ℕ) : Type 0 where
  pub key : ℕ
  pub own : new.own ≡ key ∷ []
  pub rest : new ≡ record old { shelf = new.shelf; own = new.own; lines = new.lines; spares = new.spares }
  pub is : value new.shelf key ≡ last_of old.spares
  pub values : (k : ℕ) → 0 < count old.shelf k → 0 < count new.shelf k → value new.shelf k ≡ value old.shelf k
  pub lines : IsRemembered old.cache old.lines new.lines a inputs key

-- a key was found or made for the transition of the participants' local states; the processes keep theirs
pub record HasObtained (old new : Records) (a : ℕ) : Type 0 where
  pub key : ℕ
  pub own : new.own ≡ key ∷ []
  pub dfa : new.dfa ≡ old.dfa
  pub cache : new.cache ≡ old.cache
  pub keys : new.keys ≡ old.keys
  pub transition :
      IsTransition old.dfa a (values_at old.shelf old.keys (loc_of old.dfa.alphabet a)) (value new.shelf key)
  pub values : (k : ℕ) → 0 < count old.shelf k → 0 < count new.shelf k → value new.shelf k ≡ value old.shelf k
  pub lines :
      IsRemembered old.cache old.lines new.lines a (map (λ p. slice_index old.keys p) (loc_of old.dfa.alphabet a)) key

-- what was made elsewhere is the transition of the local states on its bench, which is for this automaton
pub record IsMade (dfa : CompleteDfa) (a : ℕ) (bench : LocalStates) (made : LocalState) : Type 0 where
  pub processes : bench.processes ≡ dfa.alphabet.processes
  pub states : bench.states ≡ dfa.states
  pub transition : IsTransition dfa a bench.locals made

-- the transition of these local states, which is for this automaton
pub record IsUsable (dfa : CompleteDfa) (a : ℕ) (inputs : List LocalState) (made : LocalState) : Type 0 where
  pub transition : IsTransition dfa a inputs made
  pub shape : HasShape dfa.alphabet.processes dfa.states made
