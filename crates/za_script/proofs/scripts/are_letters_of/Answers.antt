use Rattle.std.proofs.Common.{arith}
use Rattle.za_script.specs.ScriptLists.{IsLetterOf}
use Rattle.za_script.proofs.LetterLists.{all-letters, letter-all}
use Rattle.za_script.proofs.scripts.are_letters_of.Goals as goal

pub returns-then-not-is_letter_of : goal.returns-then-not-is_letter_of
returns-then-not-is_letter_of c = (
  λ h. absurd (cc),
  λ h. c.if-not-is_letter_of.ensures.1 (letter-all (IsLetterOf c.args.alphabet.now c.args.p) c.args.letters.now _ c.loop-a.a-index c.loop-a-test.true h),
)

pub returns : goal.returns
returns c =
    (λ h. all-letters (IsLetterOf c.args.alphabet.now c.args.p) c.args.letters.now (record { 0 = 0 }) (λ k l. c.loop-a.invariant k (omega arith)), λ h. search)
