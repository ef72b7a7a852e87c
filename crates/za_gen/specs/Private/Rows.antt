-- The letter of a row, as it is listed.
use Rattle.za_alpha.specs.declared.alphabet.LetterRow.{LetterRow}
use Rattle.za_gen.specs.Generated.{ListedLetter, listed}

abbrev pub listed_by : LetterRow → ListedLetter
listed_by row = listed row.name.items row.procs.items
