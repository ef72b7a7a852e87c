use Rattle.std.proofs.Common.{◌≡◌, ◌∙◌, ◌<◌, [], false, true, ap, sym, subst, refl, length, arith}
use borrow.Author.Count.{below_more}
use Rattle.std.proofs.lemmas.Grind.{common_steps}
use Rattle.std.proofs.lemmas.List.{get_or_default, length-map}
use Rattle.za_names.specs.Names.{is_name}
use Rattle.za_text.specs.ProcessNames.{name_of}
use Rattle.za_text.specs.Private.NamesInside.{names_inside, bytes_of}
use Rattle.za_text.proofs.NameLemmas.{name-inside}
use Rattle.za_text.proofs.names.Names.are_names.Goals as goal

pub loop-p-preserved : goal.loop-p-preserved
loop-p-preserved c =
    let names = c.args.self.now in
    let p = c.loop-p.p in
    let items = c.self.inside.names.items in
    let within : p < length items = grind (arith, common_steps) in
    let name : name_of names p ≡ c.as_slice.result.now = name-inside items names p c.index.result.now c.self.view_is c.index.ensures within
    ∙ sym c.as_slice.ensures.value in
    below_more (λ k. is_name (name_of names k) ≡ true) p c.loop-p.invariant (ap is_name name ∙ sym c.if-not-is_name.ensures)

pub returns-then-not-is_name : goal.returns-then-not-is_name
returns-then-not-is_name c =
    let names = c.args.self.now in
    let p = c.loop-p.p in
    let items = c.self.inside.names.items in
    let within : p < length items = grind (arith, common_steps) in
    let size : length (names_inside c.self.inside) ≡ length items = length-map items bytes_of in
    let same : length names ≡ length (names_inside c.self.inside) = ap length (sym c.self.view_is) in
    let name : name_of names p ≡ c.as_slice.result.now = name-inside items names p c.index.result.now c.self.view_is c.index.ensures within
    ∙ sym c.as_slice.ensures.value in
    let no : is_name (name_of names p) ≡ false = ap is_name name ∙ sym c.is_name.ensures ∙ c.if-not-is_name.true in
    (λ h. absurd (cc), λ h. sym no ∙ h p [] (omega arith))

pub returns : goal.returns
returns c =
    let names = c.args.self.now in
    let items = c.self.inside.names.items in
    let size : length (names_inside c.self.inside) ≡ length items = length-map items bytes_of in
    let same : length names ≡ length (names_inside c.self.inside) = ap length (sym c.self.view_is) in
    let all : length items ≡ c.loop-p.p = grind (arith, common_steps) in
    (λ h k d l. subst (λ n. is_name n ≡ true) (get_or_default names k [] d l) (c.loop-p.invariant k (omega arith)), λ h. refl)
