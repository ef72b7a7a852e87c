use Rattle.std.proofs.Common.{◌≡◌, ◌++◌, List, ℕ, length}
use Rattle.za_script.specs.ScriptLists.{total_of}
use Rattle.za_lang.specs.Items.{letters_of_items}
use Rattle.za_lang.specs.Gathering.{AreAdded}
use Rattle.za_lang.specs.Tests.{items_fault}
use Rattle.za_lang.proofs.gather.add_items.Given as goal

abbrev pub invariant-loop-word : goal.invariant-loop-word
invariant-loop-word l = record {
  fault : items_fault l.version l.alphabet.letters l.p (total_of l.scripts) l.words
      ≡ items_fault l.version l.alphabet.letters l.p (total_of l.initial.scripts) l.initial.words;
  added : (before : List ℕ) × (AreAdded l.alphabet l.initial.scripts l.scripts l.p before
      × (before ++ letters_of_items l.version l.alphabet.letters l.words ≡ letters_of_items l.version l.alphabet.letters l.initial.words));
}

abbrev pub decreases-loop-word : goal.decreases-loop-word
decreases-loop-word l = length l.words
