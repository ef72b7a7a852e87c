use Rattle.std.proofs.Common.{◌≡◌, Some, refl, arith}
use Rattle.std.proofs.lemmas.Grind.{common_steps}
use Rattle.za_text.specs.Numbers.{numeral_value}
use Rattle.za_alpha.specs.Alphabet.{place_of}
use Rattle.za_lang.proofs.Places.{place_within}
use Rattle.za_lang.proofs.gather.row_said.Goals as goal

pub returns-clause-row : goal.returns-clause-row
returns-clause-row c =
    let letters = c.args.lang.now.table.alphabet.letters in
    let from : numeral_value c.in-Some.from.now ≡ Some c.in_ok-from.from = grind (arith, common_steps) in
    let to : numeral_value c.in-Some-next-2.to.now ≡ Some c.in_ok-to.to = grind (arith, common_steps) in
    let found : place_of letters c.in-Some-next.name.now ≡ Some c.in-Some-find.letter.0 = grind (arith, common_steps) in (
      rw (c.in-Some.ensures, c.in-Some-next.ensures, c.in-Some-next-2.ensures, from, to, found) refl,
      grind (arith, common_steps),
      place_within letters c.in-Some-next.name.now c.in-Some-find.letter.0 found,
      grind (arith, common_steps),
    )
