use Rattle.std.proofs.Common.{◌≡◌, ◌<◌, length, get_or, refl, ap, ◌∙◌, arith}
use Rattle.std.proofs.lemmas.Grind.{common_steps}
use Rattle.za_alpha.specs.Words.{has}
use Rattle.za_alpha.specs.Procs.{members, no_process}
use Rattle.za_alpha.specs.Alphabet.{loc_of}
use Rattle.za_script.proofs.weaving.Weaving.least_enabled.Goals as goal

pub returns-then-are_same : goal.returns-then-are_same
returns-then-are_same c =
    let letter : c.loop-at.at < length c.args.alphabet.now.letters = omega arith in
    let set : get_or c.args.self.now.sets.items c.loop-at.at no_process ≡ c.index.result.now = grind (arith, common_steps) in
    let loc : members c.loc.result ≡ loc_of c.args.alphabet.now c.loop-at.at = ap members c.loc.ensures in
    record {
      letter = letter;
      complete = record { same = λ p. ap (λ s. has (members s) p) set ∙ c.if-are_same.ensures.0 refl p ∙ ap (λ ps. has ps p) loc };
      below = c.loop-at.invariant;
    }
