use Rattle.std.proofs.Common.{◌∙◌, sym}
use Rattle.za_alpha.specs.Private.Begun.{letter_of_entry}
use Rattle.za_alpha.proofs.RowLemmas.{name_at-map}
use Rattle.za_alpha.proofs.letters.name_in.Goals as goal

pub returns : goal.returns
returns c = c.as_slice.ensures.value ∙ sym (name_at-map letter_of_entry c.args.entries.now c.args.a.0 c.index-entries-a.result c.requires)
