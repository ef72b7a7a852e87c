-- What lines and one more say.
use Rattle.std.proofs.Common.{◌≡◌, ◌∙◌, ap, refl, ℕ, List, [], ◌∷◌, ◌++◌}
use Rattle.std.proofs.lemmas.List.{append-nil}
use Rattle.std.proofs.lemmas.List.Sums.{fold-append}
use Rattle.std.proofs.lemmas.List.Concat.{flat_map-append}
use Rattle.za_text.specs.Lines.{RawLine}
use Rattle.za_lang.specs.declared.order.Place.{Place}
use Rattle.za_lang.specs.declared.order.Place.TheVariants.{AtHeader}
use Rattle.za_lang.specs.declared.version.Version.TheVariants.{Two}
use Rattle.za_lang.specs.Documents.{Said, said, words_in}
use Rattle.za_lang.specs.Gathering.{more}
use Rattle.za_lang.specs.Reading.{nothing}
use Rattle.za_lang.proofs.Saying.{said_none, said_more}
use Rattle.za_expr.specs.Documents.{next_place_with, place_with, said_with, tokens_by, tokens_in}
use Rattle.za_expr.specs.Private.Keeping.{more_with}

at_place : Said → Place → Said
at_place s place = record s { place = place }

same_more : (s : Said) (p q : Place) (ws : List (List ℕ)) → at_place (more s ws) q ≡ at_place (more (record s { place = p }) ws) q
unfolding at_place
same_more s p q [] = refl
same_more s p q (w ∷ ws) = refl

pub said_with_none : said_with [] ≡ nothing Two
unfolding at_place
said_with_none = ap (λ (s : Said). at_place s AtHeader) (said_none Two)

pub said_more_with : (ls : List RawLine) (line : RawLine) → said_with (ls ++ line ∷ []) ≡ more_with (said_with ls) (words_in Two line)
unfolding at_place
said_more_with ls line =
    let ws = words_in Two line in
    let place : place_with (ls ++ line ∷ []) ≡ next_place_with (place_with ls) ws = fold-append _ _ ls (line ∷ []) in
    ap (λ (s : Said). at_place s (place_with (ls ++ line ∷ []))) (said_more Two ls line)
    ∙ ap (at_place (more (said Two ls) ws)) place
    ∙ same_more (said Two ls) (place_with ls) (next_place_with (place_with ls) ws) ws

pub tokens_more : (ls : List RawLine) (line : RawLine) → tokens_in (ls ++ line ∷ []) ≡ tokens_in ls ++ tokens_by (words_in Two line)
tokens_more ls line = flat_map-append _ ls (line ∷ []) ∙ simp append-nil
