use Rattle.std.proofs.Common.{◌≡◌, ◌∙◌, ◌<◌, ◌+◌, cond, drop, Some, sym, ap, length, false, arith}
use Rattle.std.specs.List.{position_from}
use Rattle.std.specs.Str.{bytes_eq}
use Rattle.std.proofs.lemmas.Grind.{common_steps}
use Rattle.std.proofs.lemmas.List.{length-map}
use Rattle.za_text.specs.ProcessNames.{name_of}
use Rattle.za_text.specs.Private.NamesInside.{names_inside, bytes_of}
use Rattle.za_text.proofs.NameLemmas.{search_on, name-inside}
use Rattle.za_text.proofs.names.Names.find.Goals as goal

pub loop-p-preserved : goal.loop-p-preserved
loop-p-preserved c =
    let names = c.args.self.now in
    let word = c.args.word.now in
    let p = c.loop-p.p in
    let items = c.self.inside.names.items in
    let size : length (names_inside c.self.inside) ≡ length items = length-map items bytes_of in
    let within : p < length items = grind (arith, common_steps) in
    let same : length names ≡ length (names_inside c.self.inside) = ap length (sym c.self.view_is) in
    let name : name_of names p ≡ c.as_slice.result.now = name-inside items names p c.index.result.now c.self.view_is c.index.ensures within
    ∙ sym c.as_slice.ensures.value in
    let no : bytes_eq (name_of names p) word ≡ false = ap (λ n. bytes_eq n word) name ∙ sym c.eq.ensures ∙ c.if-eq.false in
    let rest = position_from (λ name. bytes_eq name word) (p + 1) (drop (p + 1) names) in
    ap (λ b. cond b (Some p) rest) (sym no) ∙ sym (search_on names word p (omega arith)) ∙ c.loop-p.invariant
