-- The laws of the order of events. The laws on views and entries hold of any events: for a word w, `who` is
-- `participants loc w`, and n is at most its length.
use Rattle.std.specs.Prelude.{◌≡◌, ◌≢◌, ℕ, suc, ◌^◌, Bool, not, ◌&&◌, List, [], ◌∷◌, ◌++◌, ◌↔◌, ◌<◌, ◌≤◌, IsTrue}
use Rattle.std.specs.Prelude.{IsFalse, Some, None, length, slice_index}
use Rattle.za_alpha.specs.Words.{has, IsAlphabet, IsWord, AreEquivalent}
use Rattle.za_order.specs.Views.{participants, in_view, in_past, Chain, IsMaximalInBoth}
use Rattle.za_order.specs.Entries.{primary, secondary, tertiary, IsPrimary, IsSecondary, IsTertiary}
use Rattle.za_order.specs.Words.{subword, IsDownClosed, IsMatch, AreMatched}
use Rattle.za_order.specs.Labels.{least_participant, label, label_bound, number}
use Rattle.za_order.specs.Locals.{ids, knows_latest}

-- the past of an event has exactly the events from which a chain leads to it
abbrev pub PastIsChains : Type 0
PastIsChains =
    (loc : ℕ → List ℕ) (letters processes : ℕ) (w : List ℕ) (e i : ℕ) →
    IsAlphabet loc letters processes → IsWord letters w → e < length w →
    (IsTrue (in_past (participants loc w) e i) ↔ Chain (participants loc w) i e)

-- after an event its participants have the same view
abbrev pub ParticipantsAgree : Type 0
ParticipantsAgree =
    (who : ℕ → List ℕ) (e p q i : ℕ) → IsTrue (has (who e) p) → IsTrue (has (who e) q) →
    in_view who (suc e) (p ∷ []) i ≡ in_view who (suc e) (q ∷ []) i

-- a maximal event of what both p and q know is a primary entry of both
abbrev pub SharedMaximalIsPrimary : Type 0
SharedMaximalIsPrimary =
    (who : ℕ → List ℕ) (n p q f : ℕ) → IsMaximalInBoth who n p q f → IsPrimary who n p f × IsPrimary who n q f

-- y knows the latest event of r that x knows exactly if it is a secondary entry of y for r
abbrev pub NewerBySecondary : Type 0
NewerBySecondary =
    (who : ℕ → List ℕ) (n x y r e : ℕ) → primary who n x r ≡ Some e →
    (IsTrue (in_view who n (y ∷ []) e) ↔ ((q : ℕ) × (secondary who n y q r ≡ Some e)))

-- a secondary entry of any process that p knows is a tertiary entry of p
abbrev pub TertiaryCovers : Type 0
TertiaryCovers =
    (who : ℕ → List ℕ) (n u p e : ℕ) → IsSecondary who n u e → IsTrue (in_view who n (p ∷ []) e) → IsTertiary who n p e

-- after an event n each participant has it as its primary entry for each participant
abbrev pub PrimaryOfParticipant : Type 0
PrimaryOfParticipant =
    (who : ℕ → List ℕ) (n p q : ℕ) → IsTrue (has (who n) p) → IsTrue (has (who n) q) → primary who (suc n) p q ≡ Some n

-- and so its secondary entries for a participant are its primary entries
abbrev pub SecondaryOfParticipant : Type 0
SecondaryOfParticipant =
    (who : ℕ → List ℕ) (n p q r : ℕ) → IsTrue (has (who n) p) → IsTrue (has (who n) q) →
    secondary who (suc n) p q r ≡ primary who (suc n) p r

-- and its tertiary entries for a participant are its secondary entries
abbrev pub TertiaryOfParticipant : Type 0
TertiaryOfParticipant =
    (who : ℕ → List ℕ) (n p q r s : ℕ) → IsTrue (has (who n) p) → IsTrue (has (who n) q) →
    tertiary who (suc n) p q r s ≡ secondary who (suc n) p r s

-- for any other process it has the latest primary entry that a participant had, if there is one
abbrev pub PrimaryJoined : Type 0
PrimaryJoined =
    (who : ℕ → List ℕ) (n p q : ℕ) → IsTrue (has (who n) p) → IsFalse (has (who n) q) →
    ((s g : ℕ) → IsTrue (has (who n) s) → primary who n s q ≡ Some g →
    ((t h : ℕ) → IsTrue (has (who n) t) → primary who n t q ≡ Some h → h ≤ g) → primary who (suc n) p q ≡ Some g)
    × (((s : ℕ) → IsTrue (has (who n) s) → primary who n s q ≡ None) → primary who (suc n) p q ≡ None)

-- and the secondary entries for q of each participant b that knows the latest of them
abbrev pub SecondaryJoined : Type 0
SecondaryJoined =
    (who : ℕ → List ℕ) (n p q b r : ℕ) → IsTrue (has (who n) p) → IsFalse (has (who n) q) → IsTrue (has (who n) b) →
    IsTrue (knows_latest who n (who n) q b) → secondary who (suc n) p q r ≡ secondary who n b q r

-- and the tertiary entries for q that it has
abbrev pub TertiaryJoined : Type 0
TertiaryJoined =
    (who : ℕ → List ℕ) (n p q b r s : ℕ) → IsTrue (has (who n) p) → IsFalse (has (who n) q) → IsTrue (has (who n) b) →
    IsTrue (knows_latest who n (who n) q b) → tertiary who (suc n) p q r s ≡ tertiary who n b q r s

-- who takes no part keeps its primary entries
abbrev pub PrimaryKept : Type 0
PrimaryKept = (who : ℕ → List ℕ) (n p q : ℕ) → IsFalse (has (who n) p) → primary who (suc n) p q ≡ primary who n p q

-- its secondary entries
abbrev pub SecondaryKept : Type 0
SecondaryKept =
    (who : ℕ → List ℕ) (n p q r : ℕ) → IsFalse (has (who n) p) → secondary who (suc n) p q r ≡ secondary who n p q r

-- and its tertiary entries
abbrev pub TertiaryKept : Type 0
TertiaryKept =
    (who : ℕ → List ℕ) (n p q r s : ℕ) → IsFalse (has (who n) p) →
    tertiary who (suc n) p q r s ≡ tertiary who n p q r s

-- for a down-closed part of a set of positions, the subword at the set is equivalent to the subword at the part
-- followed by the subword at the rest
abbrev pub SubwordsSplit : Type 0
SubwordsSplit =
    (loc : ℕ → List ℕ) (w : List ℕ) (n : ℕ) (part whole : ℕ → Bool) →
    ((i : ℕ) → IsTrue (part i) → IsTrue (whole i)) → IsDownClosed (participants loc w) part →
    AreEquivalent loc (subword w whole n) (subword w part n ++ subword w (λ i. whole i && not (part i)) n)

-- the label of an event is none of its letter's events that are tertiary entries of its least participant just
-- before it
abbrev pub LabelIsFree : Type 0
LabelIsFree =
    (loc : ℕ → List ℕ) (letters processes : ℕ) (w : List ℕ) (i e : ℕ) →
    IsAlphabet loc letters processes → IsWord letters w → i < length w →
    IsTertiary (participants loc w) i (least_participant loc processes w i) e → slice_index w e ≡ slice_index w i →
    label loc processes w e ≢ label loc processes w i

-- and each smaller label is one of theirs
abbrev pub LabelIsLeast : Type 0
LabelIsLeast =
    (loc : ℕ → List ℕ) (processes : ℕ) (w : List ℕ) (i k : ℕ) → k < label loc processes w i →
    (e : ℕ) × IsTertiary (participants loc w) i (least_participant loc processes w i) e
    × (slice_index w e ≡ slice_index w i) × (label loc processes w e ≡ k)

-- labels are at most the cube of the number of processes
abbrev pub LabelsAreBounded : Type 0
LabelsAreBounded =
    (loc : ℕ → List ℕ) (processes : ℕ) (w : List ℕ) (i : ℕ) → label loc processes w i ≤ processes ^ 3

-- and so there are as many numbers at most as letters times labels
abbrev pub NumbersAreBounded : Type 0
NumbersAreBounded =
    (loc : ℕ → List ℕ) (letters processes : ℕ) (w : List ℕ) (i : ℕ) →
    IsAlphabet loc letters processes → IsWord letters w → i < length w →
    number loc processes w (Some i) ≤ label_bound letters processes

-- secondary entries of any two processes that have one number are one event, or none
abbrev pub NumbersTellApart : Type 0
NumbersTellApart =
    (loc : ℕ → List ℕ) (letters processes : ℕ) (w : List ℕ) (n p q r u s t : ℕ) →
    IsAlphabet loc letters processes → IsWord letters w → n ≤ length w →
    number loc processes w (secondary (participants loc w) n p q r)
    ≡ number loc processes w (secondary (participants loc w) n u s t) →
    secondary (participants loc w) n p q r ≡ secondary (participants loc w) n u s t

-- each event of a word has a match in an equivalent word
abbrev pub EventsMatch : Type 0
EventsMatch =
    (loc : ℕ → List ℕ) (letters processes : ℕ) (u v : List ℕ) (i : ℕ) →
    IsAlphabet loc letters processes → IsWord letters u → AreEquivalent loc u v → i < length u →
    (j : ℕ) × IsMatch u v i j

-- the views of any processes have the same of two events that match
abbrev pub ViewsAgree : Type 0
ViewsAgree =
    (loc : ℕ → List ℕ) (u v ps : List ℕ) (i j : ℕ) → AreEquivalent loc u v → IsMatch u v i j →
    in_view (participants loc u) (length u) ps i ≡ in_view (participants loc v) (length v) ps j

-- primary entries match
abbrev pub PrimaryEntriesAgree : Type 0
PrimaryEntriesAgree =
    (loc : ℕ → List ℕ) (u v : List ℕ) (p q : ℕ) → AreEquivalent loc u v →
    AreMatched u v (primary (participants loc u) (length u) p q) (primary (participants loc v) (length v) p q)

-- secondary entries match
abbrev pub SecondaryEntriesAgree : Type 0
SecondaryEntriesAgree =
    (loc : ℕ → List ℕ) (u v : List ℕ) (p q r : ℕ) → AreEquivalent loc u v →
    AreMatched u v (secondary (participants loc u) (length u) p q r) (secondary (participants loc v) (length v) p q r)

-- tertiary entries match
abbrev pub TertiaryEntriesAgree : Type 0
TertiaryEntriesAgree =
    (loc : ℕ → List ℕ) (u v : List ℕ) (p q r s : ℕ) → AreEquivalent loc u v →
    AreMatched u v (tertiary (participants loc u) (length u) p q r s) (tertiary (participants loc v) (length v) p q r s)

-- events that match have one label
abbrev pub LabelsAgree : Type 0
LabelsAgree =
    (loc : ℕ → List ℕ) (letters processes : ℕ) (u v : List ℕ) (i j : ℕ) →
    IsAlphabet loc letters processes → IsWord letters u → IsWord letters v → AreEquivalent loc u v →
    IsMatch u v i j → label loc processes u i ≡ label loc processes v j

-- and so the numbers that a process keeps are the same
abbrev pub IdsAgree : Type 0
IdsAgree =
    (loc : ℕ → List ℕ) (letters processes : ℕ) (u v : List ℕ) (p : ℕ) →
    IsAlphabet loc letters processes → IsWord letters u → IsWord letters v → AreEquivalent loc u v →
    ids loc processes u (length u) p ≡ ids loc processes v (length v) p
