use Rattle.std.proofs.Common.{◌<◌, length, sym, ap, ◌∙◌, subst}
use Rattle.za_alpha.specs.Alphabet.{DistributedAlphabet}
use Rattle.za_dfa.specs.Tables.{CompleteDfa}
use Rattle.za_hall.specs.Private.Serving.{letter_number}
use Rattle.za_hall.proofs.hall.HallParts.tell.Goals as goal

pub loc-requires : goal.loc-requires
loc-requires c = subst (λ (a : DistributedAlphabet). c.in-Some.letter.0 < length a.letters)
    (sym (c.alphabet.ensures ∙ ap (λ (d : CompleteDfa). d.alphabet) c.dfa.ensures.value))
    (c.requires c.in-Some.letter.0 (ap letter_number c.in-Some.is))
