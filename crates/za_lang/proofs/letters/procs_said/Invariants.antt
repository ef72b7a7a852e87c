use Rattle.std.proofs.Common.{◌≡◌, ◌<◌, ℕ, true, IsTrue, length}
use Rattle.std.specs.Prelude.{fold}
use Rattle.std.specs.List.{filter_map}
use Rattle.za_alpha.specs.Words.{has}
use Rattle.za_alpha.specs.Procs.{members, with_process}
use Rattle.za_lang.specs.Tests.{loc_fault, process_at}
use Rattle.za_lang.specs.Reading.{naming_of}
use Rattle.za_lang.proofs.letters.procs_said.Given as goal

abbrev pub invariant-loop-word : goal.invariant-loop-word
invariant-loop-word l = record {
  fault : loc_fault (naming_of l.version l.names) l.words ≡ loc_fault (naming_of l.version l.names) l.initial.words;
  said : fold with_process l.procs (filter_map (process_at (naming_of l.version l.names)) l.words)
      ≡ fold with_process l.initial.procs (filter_map (process_at (naming_of l.version l.names)) l.initial.words);
  below : (p : ℕ) → IsTrue (has (members l.procs) p) → p < length l.names;
  some : (p : ℕ) × (has (members l.procs) p ≡ true);
}

abbrev pub decreases-loop-word : goal.decreases-loop-word
decreases-loop-word l = length l.words
