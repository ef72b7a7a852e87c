-- A partial table: what contracts see of a `Partial`, and the table that completes it.
use Rattle.std.specs.Prelude.{◌≡◌, ℕ, ◌+◌, ◌*◌, ◌<◌, ◌≤◌, ◌++◌, ◌∷◌, ◌==◌, not, Bool, false}
use Rattle.std.specs.Prelude.{List, [], length, map, replicate, slice_index_or, slice_set}
use Rattle.std.specs.Prelude.{Option, Some, None, is_some, unwrap_or, if◌then◌else◌}
use Rattle.std.specs.List.{list_all}
use Rattle.za_alpha.specs.Alphabet.{DistributedAlphabet, IsDistributed}
use Rattle.za_dfa.specs.Limits.{most_states}
use Rattle.za_dfa.specs.Tables.{CompleteDfa}

-- a table over an alphabet of m letters: entry q * m + a of `targets` is where letter a leads from
-- state q, if it leads anywhere, and entry q of `accepting` says whether state q accepts
pub record PartialDfa : Type 0 where
  pub alphabet : DistributedAlphabet
  pub states : ℕ
  pub start : ℕ
  pub accepting : List Bool
  pub targets : List (Option ℕ)

-- where letter a leads from state q, if it leads anywhere
abbrev pub target_of : PartialDfa → ℕ → ℕ → Option ℕ
target_of partial q a = slice_index_or partial.targets (q * length partial.alphabet.letters + a) None

-- whether state q accepts
abbrev pub is_accepting : PartialDfa → ℕ → Bool
is_accepting partial q = slice_index_or partial.accepting q false

-- what holds of each table: the limits, a start, an entry for each state, a cell for each state and
-- letter, and each target is a state
pub record IsPartial (partial : PartialDfa) : Type 0 where
  pub distributed : IsDistributed partial.alphabet
  pub some_state : 1 ≤ partial.states
  pub few_states : partial.states ≤ most_states
  pub starts : partial.start < partial.states
  pub accepting_length : length partial.accepting ≡ partial.states
  pub targets_length : length partial.targets ≡ partial.states * length partial.alphabet.letters
  pub targets_below : (i target : ℕ) → slice_index_or partial.targets i None ≡ Some target → target < partial.states

-- the table of so many states without targets and accepting states, which starts at state 0
abbrev pub blank : DistributedAlphabet → ℕ → PartialDfa
blank alphabet states =
    let cells = states * length alphabet.letters in
    let accepting = replicate states false in
    record { alphabet = alphabet; states = states; start = 0; accepting = accepting; targets = replicate cells None }

-- whether there is another target
abbrev pub is_other : Option ℕ → ℕ → Bool
is_other None target = false
is_other (Some there) target = not (there == target)

-- the table in which letter a leads from state q to state r
abbrev pub entered : PartialDfa → ℕ → ℕ → ℕ → PartialDfa
entered partial q a r =
    let cell = q * length partial.alphabet.letters + a in
    record partial { targets = slice_set partial.targets cell (Some r) }

-- whether each letter leads from each state somewhere
abbrev pub is_whole : PartialDfa → Bool
is_whole partial = list_all is_some partial.targets

-- the completed table: where a letter leads nowhere, it leads to one added state, which rejects and
-- leads to itself
abbrev pub completion : PartialDfa → CompleteDfa
completion partial =
    let whole = is_whole partial in
    let given = map (λ cell. unwrap_or cell partial.states) partial.targets in
    let added = replicate (length partial.alphabet.letters) partial.states in
    record {
      alphabet = partial.alphabet;
      states = if whole then partial.states else partial.states + 1;
      start = partial.start;
      accepting = if whole then partial.accepting else partial.accepting ++ false ∷ [];
      targets = if whole then given else given ++ added;
    }

-- the partial table that a complete one is
abbrev pub whole_of : CompleteDfa → PartialDfa
whole_of d =
    let cells = map (λ (target : ℕ). Some target) d.targets in
    record { alphabet = d.alphabet; states = d.states; start = d.start; accepting = d.accepting; targets = cells }
