use Rattle.std.proofs.Common.{refl, sym, subst}
use Rattle.za_lang.specs.declared.order.Head.TheVariants as head
use Rattle.za_lang.specs.Gathering.{more_said, Tells}
use Rattle.za_lang.specs.Reading.{letters_told, naming_of}
use Rattle.za_lang.proofs.Opening.{blank_told}
use Rattle.za_lang.proofs.letters.after_letters.Goals as goal

pub returns-in_ok-job-in-States-clause-taken : goal.returns-in_ok-job-in-States-clause-taken
returns-in_ok-job-in-States-clause-taken c =
    let naming = naming_of c.args.version c.args.names in
    let letters = c.args.letters in
    let said = c.in_ok-job-in-States.ensures.said in
    let told = subst (λ j. Tells j (more_said (letters_told naming letters) head.States c.args.words)) (sym said.1.1.1)
    (blank_told naming letters c.args.words said.1.0 c.requires.few.named.size said.1.1.0) in
    rw c.in-States.is (said.0, (refl, told), λ later version. tt)
