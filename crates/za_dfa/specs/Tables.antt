-- A DFA as a table: what contracts see of a `Dfa`.
use Rattle.std.specs.Prelude.{◌≡◌, ℕ, ◌+◌, ◌*◌, ◌<◌, ◌≤◌, ◌&&◌, nat_lt, Bool, false, List}
use Rattle.std.specs.Prelude.{All, length, slice_index, slice_index_or, if◌then◌else◌}
use Rattle.za_alpha.specs.Alphabet.{DistributedAlphabet, IsDistributed}
use Rattle.za_dfa.specs.declared.dfa.Dfa.TheInside.{Inside}
use Rattle.za_dfa.specs.Limits.{most_states}
use Rattle.za_dfa.specs.Automata.{Automaton}

-- a table over an alphabet of m letters: entry q * m + a of `targets` is where letter a leads from
-- state q, and entry q of `accepting` says whether state q accepts
pub record CompleteDfa : Type 0 where
  pub alphabet : DistributedAlphabet
  pub states : ℕ
  pub start : ℕ
  pub accepting : List Bool
  pub targets : List ℕ

-- the table's entry for state q and letter a
abbrev pub target_at : CompleteDfa → ℕ → ℕ → ℕ
target_at d q a = slice_index d.targets (q * length d.alphabet.letters + a)

-- where letter a leads from q; where q is no state or a no letter, it leaves q as it is
abbrev pub step_of : CompleteDfa → ℕ → ℕ → ℕ
step_of d q a = if nat_lt q d.states && nat_lt a (length d.alphabet.letters) then target_at d q a else q

-- whether state q accepts
abbrev pub accepts_at : CompleteDfa → ℕ → Bool
accepts_at d q = slice_index_or d.accepting q false

-- the automaton that the table is
abbrev pub automaton_of : CompleteDfa → Automaton
automaton_of d = record {
  states = d.states;
  letters = length d.alphabet.letters;
  start = d.start;
  step = step_of d;
  accepts = accepts_at d;
}

-- what holds of each table: the limits, a start, an entry for each state, a target for each state
-- and letter, and each target is a state
pub record IsComplete (d : CompleteDfa) : Type 0 where
  pub distributed : IsDistributed d.alphabet
  pub some_state : 1 ≤ d.states
  pub few_states : d.states ≤ most_states + 1
  pub starts : d.start < d.states
  pub accepting_length : length d.accepting ≡ d.states
  pub targets_length : length d.targets ≡ d.states * length d.alphabet.letters
  pub targets_below : All (λ target. target < d.states) d.targets

-- the table with these entries: a state for each entry of `accepting`
abbrev pub table_with : DistributedAlphabet → ℕ → List Bool → List ℕ → CompleteDfa
table_with alphabet start accepting targets =
    record { alphabet = alphabet; states = length accepting; start = start; accepting = accepting; targets = targets }

abbrev pub table_of : Inside → CompleteDfa
table_of inside = record {
  alphabet = inside.alphabet;
  states = inside.states;
  start = inside.start;
  accepting = inside.accepting.items;
  targets = inside.targets.items;
}

abbrev pub IsCompleteInside : Inside → Type 0
IsCompleteInside inside = IsComplete (table_of inside)
