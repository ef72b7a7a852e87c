use Rattle.std.proofs.Common.{ℕ, ◌-◌, ◌/◌, Some, ap, ◌∙◌}
use Rattle.za_alpha.specs.declared.word.Letter.{Letter}
use Rattle.za_ids.proofs.Numbers.{number-letter}
use Rattle.za_ids.proofs.ids.letter_of.Goals as goal

pub returns-clause-inverse : goal.returns-clause-inverse
returns-clause-inverse c = λ a k l e.
    let letter : ℕ → Letter = λ x. record { 0 = x } in
    ap (λ x. Some (letter x)) (ap (λ m. (c.args.id.0 - 1) / m) c.label_count.ensures.value ∙ number-letter c.args.n a k c.args.id.0 l e)
