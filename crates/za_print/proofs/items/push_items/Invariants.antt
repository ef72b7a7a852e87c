use Rattle.std.proofs.Common.{◌≡◌, ◌++◌, length, map}
use Rattle.za_alpha.specs.Words.{IsWord}
use Rattle.za_alpha.specs.Letters.{numbers}
use Rattle.za_text.specs.Printed.{spaced}
use Rattle.za_print.specs.Printed.{item_word}
use Rattle.za_print.specs.Private.Items.{runs_by}
use Rattle.za_print.proofs.items.push_items.Given as goal

abbrev pub invariant-loop-rest : goal.invariant-loop-rest
invariant-loop-rest l = record {
  word : IsWord (length l.alphabet.letters) (numbers l.rest);
  text : l.text.items ++ spaced (map (item_word l.alphabet.letters) (runs_by l.repeats (numbers l.rest))) ≡ l.initial.text.items
      ++ spaced (map (item_word l.alphabet.letters) (runs_by l.repeats (numbers l.letters)));
}

abbrev pub decreases-loop-rest : goal.decreases-loop-rest
decreases-loop-rest l = length l.rest
