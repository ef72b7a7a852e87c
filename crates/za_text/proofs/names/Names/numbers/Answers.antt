use Rattle.std.proofs.Common.{◌≡◌, ◌∙◌, ◌++◌, ◌∷◌, [], ap, sym, subst, map, arith}
use Rattle.std.specs.Prelude.{decimal}
use Rattle.std.proofs.lemmas.List.{map-append}
use Rattle.za_text.specs.ProcessNames.{numbered, AreNames}
use Rattle.za_text.specs.Private.NamesInside.{bytes_of}
use Rattle.za_text.proofs.NameLemmas.{numbered-more, numbered-names, digit_at}
use Rattle.za_text.proofs.names.Names.numbers.Goals as goal

pub loop-p-preserved : goal.loop-p-preserved
loop-p-preserved c =
    let names = c.loop-p.names.items in
    let p = c.loop-p.p in
    let digit : bytes_of c.in_ok-from_slice.field-0 ≡ decimal p = c.in_ok-from_slice.ensures.items ∙ sym (digit_at p (omega arith)) in
    ap (map bytes_of) c.in_ok-push.ensures.items ∙ map-append bytes_of names (c.in_ok-from_slice.field-0 ∷ [])
    ∙ ap (λ ns. ns ++ bytes_of c.in_ok-from_slice.field-0 ∷ []) c.loop-p.invariant ∙ ap (λ n. numbered p ++ n ∷ []) digit ∙ sym (numbered-more p)

pub invariant_of-result : goal.invariant_of-result
invariant_of-result c = subst AreNames (sym c.loop-p.invariant) (numbered-names c.loop-p.p (omega arith))
