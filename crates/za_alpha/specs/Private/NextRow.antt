-- Rows that can be added to letters.
use Rattle.std.specs.Prelude.{◌≡◌, ◌==◌, ◌≤◌, true, false, nat_le, length}
use Rattle.std.specs.List.{list_any}
use Rattle.za_names.specs.Names.{is_name}
use Rattle.za_alpha.specs.declared.alphabet.LetterRow.{LetterRow}
use Rattle.za_alpha.specs.Limits.{most_processes}
use Rattle.za_alpha.specs.Alphabet.{DistributedAlphabet}
use Rattle.za_alpha.specs.NewNames.{is_taken}

-- the row passes its tests after these letters
pub record IsNextRow (alphabet : DistributedAlphabet) (row : LetterRow) : Type 0 where
  pub few : alphabet.processes ≤ most_processes
  pub named : is_name row.name.items ≡ true
  pub fresh : is_taken alphabet.letters row.name.items ≡ false
  pub some : (length row.procs.items == 0) ≡ false
  pub there : list_any (λ p. nat_le alphabet.processes p) row.procs.items ≡ false
