-- That residues compose.
use Rattle.std.specs.Prelude.{◌≡◌, ℕ, zero, suc, ◌<◌, Bool, false, ◌||◌, ◌&&◌, List, [], ◌∷◌, ◌++◌}
use Rattle.std.specs.Prelude.{take, length, slice_index, IsTrue, IsFalse}
use Rattle.std.specs.List.{range_with_len, list_any}
use Rattle.za_alpha.specs.Words.{has, IsAlphabet, IsWord, AreEquivalent}
use Rattle.za_order.specs.Views.{participants}
use Rattle.za_order.specs.Locals.{earlier, under, residue_word}
use Rattle.za_dfa.specs.Automata.{Automaton, IsTotal, walk, HasDiamonds}

-- from q through the functions f 0, f 1 and so on, in turn, `count` of them
abbrev pub in_turn : (ℕ → ℕ → ℕ) → ℕ → ℕ → ℕ
in_turn f zero q = q
in_turn f (suc i) q = f i (in_turn f i q)

-- whether the past of the primary entry of x for s is left out of what x adds to the processes ps, which come before it
-- among xs, without the pasts of the best of xs for the set
abbrev pub omitted : (ℕ → List ℕ) → ℕ → ℕ → List ℕ → (ℕ → Bool) → List ℕ → ℕ → ℕ → Bool
omitted who processes n xs set ps x s =
    earlier who processes n ps x s
    || list_any (λ r. set r && under who processes n xs x r s) (range_with_len 0 processes)

-- what the i-th of xs adds to those before it
abbrev pub part_of : (ℕ → List ℕ) → ℕ → List ℕ → List ℕ → (ℕ → Bool) → ℕ → List ℕ
part_of loc processes w xs set i =
    residue_word loc processes w (length w) (slice_index xs i)
    (omitted (participants loc w) processes (length w) xs set (take i xs) (slice_index xs i))

-- from q through what each of xs adds, in turn
abbrev pub composed : (ℕ → List ℕ) → Automaton → ℕ → List ℕ → List ℕ → (ℕ → Bool) → ℕ → ℕ
composed loc d processes w xs set q =
    in_turn (λ i. λ q. walk d.step q (part_of loc processes w xs set i)) (length xs) q

-- after an event the residues of its participants are theirs before it, in turn, and the event
abbrev pub ParticipantsCompose : Type 0
ParticipantsCompose =
    (loc : ℕ → List ℕ) (processes : ℕ) (d : Automaton) (w : List ℕ) (a p : ℕ) (set : ℕ → Bool) (q : ℕ) →
    IsAlphabet loc d.letters processes → IsTotal d → HasDiamonds loc d →
    IsWord d.letters w → a < d.letters → q < d.states → IsTrue (has (loc a) p) → IsFalse (list_any set (loc a)) →
    walk d.step q (residue_word loc processes (w ++ a ∷ []) (suc (length w)) p set)
    ≡ d.step (composed loc d processes w (loc a) set q) a

-- and nothing is left for a set with a participant
abbrev pub ParticipantsReset : Type 0
ParticipantsReset =
    (loc : ℕ → List ℕ) (letters processes : ℕ) (w : List ℕ) (a p : ℕ) (set : ℕ → Bool) →
    IsAlphabet loc letters processes → IsWord letters w → a < letters →
    IsTrue (has (loc a) p) → IsTrue (list_any set (loc a)) →
    residue_word loc processes (w ++ a ∷ []) (suc (length w)) p set ≡ []

-- who takes no part keeps its residues
abbrev pub OthersKeepResidues : Type 0
OthersKeepResidues =
    (loc : ℕ → List ℕ) (letters processes : ℕ) (w : List ℕ) (a p : ℕ) (set : ℕ → Bool) →
    IsAlphabet loc letters processes → IsWord letters w → a < letters → IsFalse (has (loc a) p) →
    residue_word loc processes (w ++ a ∷ []) (suc (length w)) p set ≡ residue_word loc processes w (length w) p set

-- all processes in turn lead where the word leads
abbrev pub ResiduesDecide : Type 0
ResiduesDecide =
    (loc : ℕ → List ℕ) (processes : ℕ) (d : Automaton) (w : List ℕ) (q : ℕ) →
    IsAlphabet loc d.letters processes → IsTotal d → HasDiamonds loc d → IsWord d.letters w → q < d.states →
    composed loc d processes w (range_with_len 0 processes) (λ y. false) q ≡ walk d.step q w

-- equivalent words have equivalent residue words
abbrev pub ResidueWordsAgree : Type 0
ResidueWordsAgree =
    (loc : ℕ → List ℕ) (processes : ℕ) (u v : List ℕ) (p : ℕ) (set : ℕ → Bool) → AreEquivalent loc u v →
    AreEquivalent loc (residue_word loc processes u (length u) p set) (residue_word loc processes v (length v) p set)

-- so they have the same residues
abbrev pub ResiduesAgree : Type 0
ResiduesAgree =
    (loc : ℕ → List ℕ) (processes : ℕ) (d : Automaton) (u v : List ℕ) (p : ℕ) (set : ℕ → Bool) (q : ℕ) →
    IsAlphabet loc d.letters processes → IsTotal d → HasDiamonds loc d →
    IsWord d.letters u → IsWord d.letters v → q < d.states → AreEquivalent loc u v →
    walk d.step q (residue_word loc processes u (length u) p set)
    ≡ walk d.step q (residue_word loc processes v (length v) p set)
