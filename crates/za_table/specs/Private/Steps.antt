-- The lists of a table: at the start, after an event, and what they are for a machine.
use Rattle.std.specs.Prelude.{◌≡◌, ℕ, ◌+◌, ◌<◌, ◌≤◌, ◌&&◌, not, [], ◌∷◌, ◌++◌, List, Bool, Option, Some, None, false}
use Rattle.std.specs.Prelude.{length, replicate, cond, slice_index, slice_index_or, vec_capacity, if◌then◌else◌}
use Rattle.za_alpha.specs.Words.{has}
use Rattle.za_alpha.specs.Letters.{numbers}
use Rattle.za_alpha.specs.declared.procs.Procs.{Procs}
use Rattle.za_alpha.specs.Procs.{members, no_process}
use Rattle.za_alpha.specs.Alphabet.{DistributedAlphabet, loc_of}
use Rattle.za_order.specs.Labels.{label}
use Rattle.za_script.specs.Scripts.{total}
use Rattle.za_machine.specs.Machine.{Machine, State, fired_by, without, is_in}
use Rattle.za_table.specs.declared.progress.Progress.{Progress}
use Rattle.za_table.specs.Tables.{last_event}
use Rattle.za_table.specs.Answers.{AreMissing}

-- nothing has happened yet, and there is room for so many events
pub record IsStarted (processes events : ℕ) (p : Progress) : Type 0 where
  pub journal : p.journal.items ≡ []
  pub labels : p.labels.items ≡ []
  pub arrived : p.arrived.items ≡ replicate processes false
  pub ended : p.ended.items ≡ replicate processes false
  pub counts : p.counts.items ≡ replicate processes 0
  pub latest : p.latest.items ≡ replicate processes None
  pub journal_room : events ≤ vec_capacity p.journal
  pub labels_room : events ≤ vec_capacity p.labels

-- an event of these processes was appended, with its label
pub record HasAppended (old new : Progress) (a label : ℕ) (ps : List ℕ) : Type 0 where
  pub journal : numbers new.journal.items ≡ numbers old.journal.items ++ a ∷ []
  pub labels : new.labels.items ≡ old.labels.items ++ label ∷ []
  pub arrived : new.arrived.items ≡ without ps 0 old.arrived.items
  pub ended : new.ended.items ≡ old.ended.items
  pub counts_size : length new.counts.items ≡ length old.counts.items
  pub counts : (p : ℕ) → p < length old.counts.items →
      slice_index new.counts.items p ≡ slice_index old.counts.items p + cond (has ps p) 1 0
  pub latest_size : length new.latest.items ≡ length old.latest.items
  pub latest : (p : ℕ) → p < length old.latest.items → slice_index_or new.latest.items p None ≡
      (if has ps p then Some (length old.journal.items) else slice_index_or old.latest.items p None)
  pub journal_room : vec_capacity new.journal ≡ vec_capacity old.journal
  pub labels_room : vec_capacity new.labels ≡ vec_capacity old.labels

-- the lists are those of the journal, with an entry for each process, and there is room for all letters of the scripts
pub record IsProgress (m : Machine) (p : Progress) : Type 0 where
  pub labels_size : length p.labels.items ≡ length p.journal.items
  pub labels : (i : ℕ) → i < length p.journal.items →
      slice_index p.labels.items i ≡ label m.loc m.processes (numbers p.journal.items) i
  pub arrived_size : length p.arrived.items ≡ m.processes
  pub ended_size : length p.ended.items ≡ m.processes
  pub counts_size : length p.counts.items ≡ m.processes
  pub counts : (q : ℕ) → q < m.processes →
      slice_index p.counts.items q ≡ fired_by m (numbers p.journal.items) q
  pub latest_size : length p.latest.items ≡ m.processes
  pub latest : (q : ℕ) → q < m.processes →
      slice_index_or p.latest.items q None ≡ last_event m (numbers p.journal.items) q
  pub journal_room : total m.scripts m.processes ≤ vec_capacity p.journal
  pub labels_room : total m.scripts m.processes ≤ vec_capacity p.labels

-- how many events each process has, who has arrived, and the place of the latest event of each
pub record Tally : Type 0 where
  pub counts : List ℕ
  pub arrived : List Bool
  pub latest : List (Option ℕ)

-- the first n processes, as far as they are these, have one event more, have not arrived, and have the latest event at
-- this place
pub record HasTallied (old new : Tally) (n : ℕ) (ps : List ℕ) (at : ℕ) : Type 0 where
  pub counts_size : length new.counts ≡ length old.counts
  pub arrived_size : length new.arrived ≡ length old.arrived
  pub latest_size : length new.latest ≡ length old.latest
  pub counts : (p : ℕ) → p < n → slice_index new.counts p ≡ slice_index old.counts p + cond (has ps p) 1 0
  pub arrived : (p : ℕ) → p < n → is_in new.arrived p ≡ (is_in old.arrived p && not (has ps p))
  pub latest : (p : ℕ) → p < n →
      slice_index_or new.latest p None ≡ (if has ps p then Some at else slice_index_or old.latest p None)

-- the processes of the first n letters
pub record AreLocated (alphabet : DistributedAlphabet) (n : ℕ) (sets : List Procs) : Type 0 where
  pub size : length sets ≡ n
  pub each : (a : ℕ) → a < n → members (slice_index_or sets a no_process) ≡ loc_of alphabet a

-- for each letter its processes that have not arrived at it
pub record AreAllMissing (m : Machine) (c : State) (missing : List Procs) : Type 0 where
  pub size : length missing ≡ m.letters
  pub each : (a : ℕ) → a < m.letters → AreMissing m c a (slice_index_or missing a no_process)
