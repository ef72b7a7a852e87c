use Rattle.std.proofs.Common.{ℕ, ◌<◌}
use Rattle.std.proofs.lemmas.List.Elements.{All-map}
use Rattle.za_alpha.specs.declared.word.Letter.{Letter}
use Rattle.za_alpha.proofs.Projections.{letter-within}
use Rattle.za_alpha.proofs.rows.are_below.Goals as goal

pub returns : goal.returns
returns c =
    let P : ℕ → Type 0 = λ a. a < c.args.bound in (
      (λ yes. All-map P (λ (a : Letter). a.0) c.args.letters.now (c.letters_are_below.ensures.0 yes)),
      (λ word. c.letters_are_below.ensures.1 (λ k d h. letter-within c.args.bound c.args.letters.now k d word h)),
    )
