use Rattle.std.proofs.Common.{◌≡◌, ◌≤◌, ◌++◌, [], length}
use Rattle.za_lang.specs.Tests.{process_names_fault}
use Rattle.za_lang.proofs.names.names_given.Given as goal

abbrev pub invariant-loop-word : goal.invariant-loop-word
invariant-loop-word l = record {
  all : l.names ++ l.words ≡ l.initial.words;
  few : length l.initial.words ≤ 10;
  fault : process_names_fault l.names l.words ≡ process_names_fault [] l.initial.words;
}

abbrev pub decreases-loop-word : goal.decreases-loop-word
decreases-loop-word l = length l.words
