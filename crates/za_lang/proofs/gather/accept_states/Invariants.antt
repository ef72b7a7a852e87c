use Rattle.std.proofs.Common.{◌≡◌, length}
use Rattle.std.specs.List.{filter_map}
use Rattle.za_text.specs.Numbers.{numeral_value}
use Rattle.za_lang.specs.Namings.{IsLangData}
use Rattle.za_lang.specs.Gathering.{marked}
use Rattle.za_lang.specs.Tests.{accept_line_fault}
use Rattle.za_lang.proofs.gather.accept_states.Given as goal

abbrev pub invariant-loop-word : goal.invariant-loop-word
invariant-loop-word l = record {
  whole : IsLangData l.lang;
  states : l.states ≡ l.initial.lang.table.states;
  same : l.lang ≡ record l.initial.lang { table = record l.initial.lang.table { accepting = l.lang.table.accepting } };
  marks : marked l.lang.table.accepting (filter_map numeral_value l.words) ≡ marked l.initial.lang.table.accepting (filter_map numeral_value l.initial.words);
  fault : accept_line_fault l.states l.words ≡ accept_line_fault l.states l.initial.words;
}

abbrev pub decreases-loop-word : goal.decreases-loop-word
decreases-loop-word l = length l.words
