-- Which pasts to leave out of the residues of some processes, where they are taken one after another.
use Rattle.std.specs.Prelude.{◌≡◌, ℕ, ◌<◌, ◌==◌, Bool, not, ◌&&◌, nat_lt, List, [], length, map, take, slice_index}
use Rattle.std.specs.Prelude.{slice_index_or}
use Rattle.za_alpha.specs.Words.{has, IsWord}
use Rattle.za_alpha.specs.Procs.{members, no_process}
use Rattle.za_alpha.specs.Alphabet.{DistributedAlphabet, loc_of}
use Rattle.za_order.specs.Views.{participants}
use Rattle.za_order.specs.Locals.{earlier, under}
use Rattle.za_dfa.specs.Tables.{CompleteDfa}
use Rattle.za_residue.specs.declared.masks.Masks.{Masks}
use Rattle.za_residue.specs.Functions.{Functions}
use Rattle.za_residue.specs.Residues.{table_residues}

-- whether the entry s of the row is an event, and stands in the other row
abbrev pub is_shared : List ℕ → List ℕ → ℕ → Bool
is_shared primary other s =
    nat_lt s (length primary) && not (slice_index primary s == 0) && has other (slice_index primary s)

-- whether s is in the set `earlier` of the input i
abbrev pub is_earlier : Masks → ℕ → ℕ → Bool
is_earlier masks i s = has (members (slice_index_or masks.earlier i no_process)) s

-- whether s is in the set `under` of the input i and the process r
abbrev pub is_under : Masks → ℕ → ℕ → ℕ → Bool
is_under masks i r s = has (members (slice_index_or (slice_index_or masks.under i []) r no_process)) s

-- the word is over the alphabet, and these are the residues of the processes xs after it, in their order
pub record AreResiduesAfter (d : CompleteDfa) (w xs : List ℕ) (inputs : List Functions) : Type 0 where
  pub word : IsWord (length d.alphabet.letters) w
  pub residues : inputs ≡ map (table_residues d w) xs

-- for the i-th of the processes xs the masks have which of its primary entries after the word one of xs before it has
-- too, and which the best of xs for r has as secondary entries for r
pub record AreMasksAfter (alphabet : DistributedAlphabet) (w xs : List ℕ) (masks : Masks) : Type 0 where
  pub earlier : (i s : ℕ) → i < length xs → is_earlier masks i s
      ≡ earlier (participants (loc_of alphabet) w) alphabet.processes (length w) (take i xs) (slice_index xs i) s
  pub under : (i r s : ℕ) → i < length xs → r < alphabet.processes → is_under masks i r s
      ≡ under (participants (loc_of alphabet) w) alphabet.processes (length w) xs (slice_index xs i) r s
