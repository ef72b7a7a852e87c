use Rattle.std.proofs.Common.{◌≡◌, ◌∙◌, sym, ap, Some}
use Rattle.za_text.specs.ProcessNames.{process_named}
use Rattle.za_text.proofs.NameLemmas.{named_within}
use Rattle.za_lang.specs.Tests.{process_found_fault}
use Rattle.za_lang.proofs.line_tests.process_of.Goals as goal

pub returns-in-Some : goal.returns-in-Some
returns-in-Some c =
    let found : process_named c.args.names.now c.args.word.now ≡ Some c.in-Some.p = sym c.find.ensures ∙ c.in-Some.is in
    rw c.in-Two.is (ap process_found_fault found, found, named_within c.args.names.now c.args.word.now c.in-Some.p found)
