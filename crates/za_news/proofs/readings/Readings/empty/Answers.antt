use Rattle.std.proofs.Common.{◌∙◌, ◌++◌, ◌∷◌, [], ap, map, replicate}
use Rattle.std.proofs.lemmas.List.{map-append, replicate-append-replicate}
use Rattle.za_news.specs.Private.Inside.{numbers_of}
use Rattle.za_news.proofs.readings.Readings.empty.Goals as goal

pub loop-preserved : goal.loop-preserved
loop-preserved c =
    let lists = c.loop.lists.items in
    ap (map numbers_of) c.in_ok-push.ensures.items ∙ map-append numbers_of lists (c.new.result ∷ [])
    ∙ ap (λ ls. ls ++ numbers_of c.new.result ∷ []) c.loop.invariant ∙ ap (λ n. replicate c.loop.counter [] ++ n ∷ []) c.new.ensures.items
    ∙ replicate-append-replicate c.loop.counter 1 []
