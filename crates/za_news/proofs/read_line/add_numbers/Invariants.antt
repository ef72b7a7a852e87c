use Rattle.std.proofs.Common.{◌≡◌, ◌++◌, ◌==◌, [], ℕ, cond, length}
use Rattle.std.specs.List.{filter_map}
use Rattle.za_text.specs.Numbers.{numeral_value}
use Rattle.za_news.specs.Readings.{list_of}
use Rattle.za_news.specs.Grammar.{numbers_fault}
use Rattle.za_news.proofs.read_line.add_numbers.Given as goal

abbrev pub invariant-loop-word : goal.invariant-loop-word
invariant-loop-word l = record {
  size : length l.readings ≡ length l.initial.readings;
  fault : numbers_fault l.words ≡ numbers_fault l.initial.words;
  added : (q : ℕ) → list_of l.readings q ++ cond (q == l.p) (filter_map numeral_value l.words) []
      ≡ list_of l.initial.readings q ++ cond (q == l.p) (filter_map numeral_value l.initial.words) [];
}

abbrev pub decreases-loop-word : goal.decreases-loop-word
decreases-loop-word l = length l.words
