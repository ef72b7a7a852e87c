use Rattle.std.proofs.Common.{◌≡◌, ◌<◌, length, arith, subst}
use Rattle.std.proofs.lemmas.Grind.{common_steps}
use Rattle.std.specs.List.{All}
use Rattle.za_alpha.specs.Letters.{numbers}
use Rattle.za_script.specs.ScriptLists.{IsLetterOf, script_of}
use Rattle.za_script.proofs.scripts.Scripts.fits.Goals as goal

pub returns-then-not-are_letters_of : goal.returns-then-not-are_letters_of
returns-then-not-are_letters_of c =
    let within : c.loop-p.p < length c.args.self.now = grind (arith, common_steps) in
    let same : script_of c.args.self.now c.loop-p.p ≡ numbers c.letters.result.now = grind (arith, common_steps) in
    (λ h. absurd (cc), λ h. c.if-not-are_letters_of.ensures.1 (subst (λ w. All (IsLetterOf c.args.alphabet.now c.loop-p.p) w) same (h.own c.loop-p.p within)))
