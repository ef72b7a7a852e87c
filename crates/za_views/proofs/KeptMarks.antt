-- What marks keep is what contracts see of them.
use Rattle.std.proofs.Common.{◌≡◌, List, length, sym, subst}
use Rattle.std.proofs.lemmas.List.{length-map}
use Rattle.za_alpha.specs.Alphabet.{loc_of}
use Rattle.za_views.specs.declared.events.Event.{Event}
use Rattle.za_views.specs.declared.marks.Marks.TheInside.{Inside}
use Rattle.za_views.specs.Marks.{MarkedWord}
use Rattle.za_views.specs.Private.Kept.{word_of_events, marked_word, AreKept, IsKept}

-- the events are marked as those of the word that contracts see
pub kept-marked : {inside : Inside} {m : MarkedWord} {events : List Event} → IsKept inside → marked_word inside ≡ m → events ≡ inside.events.items →
    AreKept (loc_of m.alphabet) m.alphabet.processes m.word (length m.word) events inside.own
kept-marked {inside = inside} {events = events} kept view same =
    subst (λ m. AreKept (loc_of m.alphabet) m.alphabet.processes m.word (length m.word) events inside.own) view
    (subst (λ es. AreKept (loc_of inside.alphabet) inside.alphabet.processes (word_of_events inside.events.items)
    (length (word_of_events inside.events.items)) es inside.own) (sym same)
    (subst (λ n. AreKept (loc_of inside.alphabet) inside.alphabet.processes (word_of_events inside.events.items) n inside.events.items inside.own)
    (sym (length-map inside.events.items (λ (e : Event). e.letter.0))) kept.marked))
