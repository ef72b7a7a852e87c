-- That the updated numbers are those after the event.
use Rattle.std.specs.Prelude.{◌≡◌, ℕ, suc, ◌<◌, List, [], ◌∷◌, ◌++◌, IsTrue, IsFalse, length}
use Rattle.za_alpha.specs.Words.{has, IsAlphabet, IsWord}
use Rattle.za_order.specs.Views.{participants}
use Rattle.za_order.specs.Labels.{label}
use Rattle.za_order.specs.Locals.{Ids, ids, best}
use Rattle.za_gossip.specs.Updates.{newest, new_label, updated}
use Rattle.za_gossip.specs.Renaming.{IsRenaming, KeepsLetter, renamed}

-- after an event each participant has the updated numbers
abbrev pub ParticipantsUpdate : Type 0
ParticipantsUpdate =
    (loc : ℕ → List ℕ) (letters processes : ℕ) (w : List ℕ) (a p : ℕ) →
    IsAlphabet loc letters processes → IsWord letters w → a < letters → IsTrue (has (loc a) p) →
    ids loc processes (w ++ a ∷ []) (suc (length w)) p
    ≡ updated processes (loc a) a (ids loc processes w (length w))

-- who takes no part keeps its numbers
abbrev pub OthersKeep : Type 0
OthersKeep =
    (loc : ℕ → List ℕ) (letters processes : ℕ) (w : List ℕ) (a p : ℕ) →
    IsAlphabet loc letters processes → IsWord letters w → a < letters → IsFalse (has (loc a) p) →
    ids loc processes (w ++ a ∷ []) (suc (length w)) p ≡ ids loc processes w (length w) p

-- the newest by numbers is the best by views
abbrev pub NewestIsBest : Type 0
NewestIsBest =
    (loc : ℕ → List ℕ) (letters processes : ℕ) (w xs : List ℕ) (r : ℕ) →
    IsAlphabet loc letters processes → IsWord letters w →
    newest processes xs (ids loc processes w (length w)) r ≡ best (participants loc w) processes (length w) xs r

-- the new label is the label of the event
abbrev pub NewLabelIsLabel : Type 0
NewLabelIsLabel =
    (loc : ℕ → List ℕ) (letters processes : ℕ) (w : List ℕ) (a : ℕ) →
    IsAlphabet loc letters processes → IsWord letters w → a < letters →
    new_label processes (loc a) a (ids loc processes w (length w)) ≡ label loc processes (w ++ a ∷ []) (length w)

-- who is newest doesn't change with the numbers, whatever the numbers of events are
abbrev pub NewestByEquality : Type 0
NewestByEquality =
    (processes : ℕ) (xs : List ℕ) (r : ℕ) (known : ℕ → Ids) (rename : ℕ → ℕ) → IsRenaming rename →
    newest processes xs (λ p. renamed rename (known p)) r ≡ newest processes xs known r

-- nor does the new label, where the numbers of its letter stay
abbrev pub NewLabelByEquality : Type 0
NewLabelByEquality =
    (processes : ℕ) (xs : List ℕ) (letter : ℕ) (known : ℕ → Ids) (rename : ℕ → ℕ) →
    IsRenaming rename → KeepsLetter processes letter rename →
    new_label processes xs letter (λ p. renamed rename (known p)) ≡ new_label processes xs letter known

-- so the updated numbers are the updated ones by their other numbers
abbrev pub UpdateByEquality : Type 0
UpdateByEquality =
    (processes : ℕ) (xs : List ℕ) (letter : ℕ) (known : ℕ → Ids) (rename : ℕ → ℕ) →
    IsRenaming rename → KeepsLetter processes letter rename →
    updated processes xs letter (λ p. renamed rename (known p)) ≡ renamed rename (updated processes xs letter known)
