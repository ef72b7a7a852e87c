use Rattle.std.proofs.Common.{sym, ap, ◌∙◌}
use Rattle.std.specs.Prelude.{option_map}
use Rattle.za_alpha.specs.declared.word.Letter.{Letter}
use Rattle.za_alpha.proofs.Growing.{name-repeated, name-right}
use Rattle.za_alpha.proofs.letters.Letters.name_fault.Goals as goal

pub returns-in-Some : goal.returns-in-Some
returns-in-Some c =
    sym (name-repeated c.args.self.now.letters c.args.name.now c.in-Some._place.0 (sym c.is_name.ensures ∙ c.if-not-is_name.false)
    (sym c.find.ensures ∙ ap (option_map (λ (a : Letter). a.0)) c.in-Some.is))

pub returns-in-None : goal.returns-in-None
returns-in-None c =
    sym (name-right c.args.self.now.letters c.args.name.now (sym c.is_name.ensures ∙ c.if-not-is_name.false)
    (sym c.find.ensures ∙ ap (option_map (λ (a : Letter). a.0)) c.in-None.is))
