use Rattle.std.proofs.Common.{◌≡◌, ℕ, ◌<◌, ◌≤◌, ◌⊎◌, true, length}
use Rattle.za_alpha.specs.Words.{has}
use Rattle.za_alpha.specs.Alphabet.{loc_of}
use Rattle.za_machine.specs.Machine.{is_complete}
use Rattle.za_table.specs.Tables.{machine_of}
use Rattle.za_table.proofs.table.Table.first_complete.Given as goal

abbrev pub invariant-loop-p : goal.invariant-loop-p
invariant-loop-p l =
    record {
      small : l.first ≤ length l.self.given.dfa.alphabet.letters;
      found : (l.first ≡ length l.self.given.dfa.alphabet.letters) ⊎ (is_complete (machine_of l.self.given) l.self.state l.first ≡ true);
      covers : (a q : ℕ) → q < l.p → is_complete (machine_of l.self.given) l.self.state a ≡ true → has (loc_of l.self.given.dfa.alphabet a) q ≡ true →
          l.first ≤ a;
    }
