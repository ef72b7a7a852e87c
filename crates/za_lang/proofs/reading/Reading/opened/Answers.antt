use Rattle.std.proofs.Common.{[], sym, subst, arith}
use Rattle.za_lang.specs.Namings.{IsNaming}
use Rattle.za_lang.specs.Letters.{AreNamedLetters}
use Rattle.za_lang.specs.Reading.{naming_of}
use Rattle.za_lang.proofs.Naming.{AreSaid, names_right}
use Rattle.za_lang.proofs.reading.Reading.opened.Goals as goal

pub new-letters-requires-clause-some : goal.new-letters-requires-clause-some
new-letters-requires-clause-some c =
    let v = c.in-Processes.version in
    let taken = c.in_ok-names-in-Processes.ensures in
    let said : AreSaid v c.in_ok-names-in-Processes.names = subst (AreSaid v) (sym taken.1) (names_right v c.args.words taken.0) in
    let some = said.some in
    let size = c.len.ensures.value in omega arith

pub returns-in_ok-names-in-Processes-clause-whole : goal.returns-in_ok-names-in-Processes-clause-whole
returns-in_ok-names-in-Processes-clause-whole c =
    let v = c.in-Processes.version in
    let names = c.in_ok-names-in-Processes.names in
    let taken = c.in_ok-names-in-Processes.ensures in
    let said : AreSaid v names = subst (AreSaid v) (sym taken.1) (names_right v c.args.words taken.0) in
    let few = said.few in
    let size = c.len.ensures.value in
    let letters : AreNamedLetters (naming_of v names) (record { processes = c.len.result; letters = [] }) = record {
      few = record { processes = omega arith; letters = omega arith };
      named = subst (IsNaming (naming_of v names)) (sym size) said.naming;
    } in
    subst (AreNamedLetters (naming_of v names)) (sym c.new-letters.ensures) letters
