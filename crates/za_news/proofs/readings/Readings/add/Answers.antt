use Rattle.std.proofs.Common.{◌≡◌, ◌∙◌, ◌++◌, ◌∷◌, [], ◌<◌, length, ap, sym, set, arith}
use Rattle.std.proofs.lemmas.List.{map-set, length-map, get_or-map}
use Rattle.za_news.specs.Readings.{list_of}
use Rattle.za_news.specs.Private.Inside.{numbers_of}
use Rattle.za_news.proofs.Adding.{added_at}
use Rattle.za_news.proofs.readings.Readings.add.Goals as goal

pub returns-clause-added : goal.returns-clause-added
returns-clause-added c =
    let items = c.self.inside.lists.items in
    let old = c.args.self.now in
    let p = c.args.p in
    let d = c.index_mut.result.now in
    let size : length old ≡ length items = ap length (sym c.self.view_is) ∙ length-map items numbers_of in
    let within : p < length items = let h = c.requires in omega arith in
    let here : numbers_of d ≡ list_of old p =
    ap numbers_of c.index_mut.ensures.value ∙ sym (get_or-map numbers_of items p d [] within) ∙ ap (λ ls. list_of ls p) c.self.view_is in
    let new : numbers_of c.push.new.self ≡ list_of old p ++ c.args.number ∷ [] =
    c.in_ok-push.ensures.items ∙ ap (λ xs. xs ++ c.args.number ∷ []) here in
    added_at old _ p c.args.number c.requires
    (map-set numbers_of items p c.push.new.self ∙ ap (λ ls. set ls p (numbers_of c.push.new.self)) c.self.view_is ∙ ap (set old p) new)
