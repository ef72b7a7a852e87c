-- What local states share.
use Rattle.std.specs.Prelude.{◌≡◌, ℕ, ◌<◌, Bool, List, [], Option, Some, None, ◌∷◌, ◌++◌}
use Rattle.std.specs.Prelude.{IsTrue, IsFalse, length, slice_get, slice_index, slice_index_or}
use Rattle.std.specs.List.{range_with_len, list_any}
use Rattle.za_alpha.specs.declared.word.Letter.{Letter}
use Rattle.za_alpha.specs.Words.{has, IsWord}
use Rattle.za_alpha.specs.Alphabet.{DistributedAlphabet, loc_of}
use Rattle.za_order.specs.Views.{participants}
use Rattle.za_order.specs.Locals.{best, under}
use Rattle.za_gossip.specs.Rows.{Rows, AreRowsAfter}
use Rattle.za_dfa.specs.Tables.{CompleteDfa}
use Rattle.za_residue.specs.Masks.{is_shared}
use Rattle.za_local.specs.Locals.{LocalState, local_after, HasShape}

-- who meets: the participants of the letter, and without one all processes
abbrev pub meeting_of : DistributedAlphabet → Option Letter → List ℕ
meeting_of alphabet None = range_with_len 0 alphabet.processes
meeting_of alphabet (Some a) = loc_of alphabet a.0

-- the primary row of the i-th
abbrev pub primary_row : List Rows → ℕ → List ℕ
primary_row inputs i = (slice_index_or inputs i (record { primary = []; secondary = []; tertiary = [] })).primary

-- whether the entry s of the primary row of the i-th stands in that of one before it
abbrev pub is_shared_before : List Rows → ℕ → ℕ → Bool
is_shared_before inputs i s =
    list_any (λ j. is_shared (primary_row inputs i) (primary_row inputs j) s) (range_with_len 0 i)

-- the place is that of the input that has the latest news of r, where r takes no part in the letter
pub record IsBest (alphabet : DistributedAlphabet) (a : ℕ) (inputs : List Rows) (r place : ℕ) : Type 0 where
  pub within : IsFalse (has (loc_of alphabet a) r) → place < length inputs
  pub best : IsFalse (has (loc_of alphabet a) r) → (w : List ℕ) → AreRowsAfter alphabet w (loc_of alphabet a) inputs →
      slice_get (loc_of alphabet a) place
      ≡ Some (best (participants (loc_of alphabet) w) alphabet.processes (length w) (loc_of alphabet a) r)

-- they are the places for each process
abbrev pub AreBests : DistributedAlphabet → ℕ → List Rows → List ℕ → Type 0
AreBests alphabet a inputs bests =
    (r : ℕ) → r < alphabet.processes → IsBest alphabet a inputs r (slice_index bests r)

-- whether s is to be left out of the i-th participant of the letter for r after the word
abbrev pub under_at : DistributedAlphabet → ℕ → List ℕ → ℕ → ℕ → ℕ → Bool
under_at alphabet a w i r s =
    let xs = loc_of alphabet a in
    under (participants (loc_of alphabet) w) alphabet.processes (length w) xs (slice_index xs i) r s

-- the local state of each participant of the letter after the word and the letter is this one
abbrev pub IsFresh : CompleteDfa → List ℕ → ℕ → LocalState → Type 0
IsFresh d w a fresh = (x : ℕ) → IsTrue (has (loc_of d.alphabet a) x) → fresh ≡ local_after d (w ++ a ∷ []) x

-- after the word each process that takes no part in the letter has its local state; those that take part have some of
-- the same shape
pub record AreOthersAfter (d : CompleteDfa) (w : List ℕ) (a : ℕ) (locals : List LocalState) : Type 0 where
  pub word : IsWord (length d.alphabet.letters) w
  pub many : length locals ≡ d.alphabet.processes
  pub others : (q : ℕ) (e : LocalState) → q < d.alphabet.processes → IsFalse (has (loc_of d.alphabet a) q) →
      slice_index_or locals q e ≡ local_after d w q
  pub shapes : (q : ℕ) (e : LocalState) → q < d.alphabet.processes →
      HasShape d.alphabet.processes d.states (slice_index_or locals q e)
