use Rattle.std.proofs.Common.{◌≡◌, ◌∙◌, ◌++◌, ◌∷◌, [], sym, ap, subst, map}
use Rattle.std.proofs.lemmas.List.{map-append}
use Rattle.za_text.specs.ProcessNames.{AreNames}
use Rattle.za_text.specs.Private.NamesInside.{names_inside, bytes_of}
use Rattle.za_text.proofs.NameLemmas.{names-more}
use Rattle.za_text.proofs.names.Names.add.Goals as goal

pub invariant_of-self-2 : goal.invariant_of-self-2
invariant_of-self-2 c =
    let old = c.args.self.now in
    let name = c.args.name.now in
    let new : names_inside (record { names = c.push.new.self }) ≡ old ++ name ∷ [] =
    ap (map bytes_of) c.in_ok-push.ensures.items ∙ map-append bytes_of c.self.inside.names.items (c.in_ok-name.name ∷ [])
    ∙ ap (λ ns. ns ++ bytes_of c.in_ok-name.name ∷ []) c.self.view_is ∙ ap (λ n. old ++ n ∷ []) c.in_ok-name.ensures.items in
    subst AreNames (sym new) (names-more old name (subst AreNames c.self.view_is c.self.invariant) c.requires.fresh c.requires.room)
