-- Classes of states that short words don't tell apart, by rounds of refinement (Moore 1956).
use Rattle.std.specs.Prelude.{◌≡◌, ◌≢◌, ℕ, zero, suc, ◌+◌, ◌<◌, Bool, true, false, not, ◌&&◌, ◌==◌}
use Rattle.std.specs.Prelude.{List, [], ◌∷◌, Option, Some, None, slice_index, map}
use Rattle.std.specs.List.{list_all, range_with_len}
use Rattle.za_alpha.specs.Words.{IsWord}
use Rattle.za_alpha.specs.Search.{least}
use Rattle.za_dfa.specs.Automata.{Automaton, walk}
use Rattle.za_dfa.specs.Tables.{CompleteDfa, automaton_of, IsComplete}

-- each word is accepted from both states, or from neither
abbrev pub AreAlike : Automaton → ℕ → ℕ → Type 0
AreAlike d q r = (w : List ℕ) → IsWord d.letters w → d.accepts (walk d.step q w) ≡ d.accepts (walk d.step r w)

-- whether both are true, or neither
abbrev pub are_same : Bool → Bool → Bool
are_same true b = b
are_same false b = not b

-- the class of each state below n, named by the least state that the test takes for the same
abbrev pub classes_by : ℕ → (ℕ → ℕ → Bool) → List ℕ
classes_by n test = map (λ q. least (λ r. test r q) n) (range_with_len 0 n)

-- whether both states accept, or neither
abbrev pub same_end : Automaton → ℕ → ℕ → Bool
same_end d q r = are_same (d.accepts q) (d.accepts r)

-- whether the states are in one class, and each letter leads them into one
abbrev pub same_next : Automaton → List ℕ → ℕ → ℕ → Bool
same_next d classes q r =
    (slice_index classes q == slice_index classes r)
    && list_all (λ a. slice_index classes (d.step q a) == slice_index classes (d.step r a)) (range_with_len 0 d.letters)

-- the classes after one more round
abbrev pub refine : Automaton → List ℕ → List ℕ
refine d classes = classes_by d.states (same_next d classes)

-- the classes after n rounds: of states that no word of at most n letters tells apart
abbrev pub rounds : Automaton → ℕ → List ℕ
rounds d zero = classes_by d.states (same_end d)
rounds d (suc n) = refine d (rounds d n)

-- whether the states are in one class of the next round: of the first, or of one after these classes
abbrev pub same_after : Automaton → Option (List ℕ) → ℕ → ℕ → Bool
same_after d None = same_end d
same_after d (Some classes) = same_next d classes

-- the classes of that round
abbrev pub classes_after : Automaton → Option (List ℕ) → List ℕ
classes_after d before = classes_by d.states (same_after d before)

-- the classes of a round that the next doesn't change
pub record AreClasses (d : Automaton) (classes : List ℕ) : Type 0 where
  pub round : ℕ
  pub is : classes ≡ rounds d round
  pub stable : refine d (rounds d round) ≡ rounds d round

-- rows that are the classes of the first rounds, up to one that the next doesn't change
pub record AreRounds (d : Automaton) (rows : List (List ℕ)) : Type 0 where
  pub last : ℕ
  pub rows_each : rows ≡ map (rounds d) (range_with_len 0 (last + 1))
  pub stable : refine d (rounds d last) ≡ rounds d last

-- the same of a table that is complete
pub record AreClassesOf (dfa : CompleteDfa) (classes : List ℕ) : Type 0 where
  pub whole : IsComplete dfa
  pub stable : AreClasses (automaton_of dfa) classes

pub record AreRoundsOf (dfa : CompleteDfa) (rows : List (List ℕ)) : Type 0 where
  pub whole : IsComplete dfa
  pub rounds : AreRounds (automaton_of dfa) rows

-- round n tells the states apart, and the round before doesn't
pub record IsSplit (d : Automaton) (n q r : ℕ) : Type 0 where
  pub first : q < d.states
  pub second : r < d.states
  pub apart : slice_index (rounds d n) q ≢ slice_index (rounds d n) r
  pub before : (k : ℕ) → suc k ≡ n → slice_index (rounds d k) q ≡ slice_index (rounds d k) r

-- whether the letter leads the states into two classes
abbrev pub splits : Automaton → List ℕ → ℕ → ℕ → ℕ → Bool
splits d classes q r a = not (slice_index classes (d.step q a) == slice_index classes (d.step r a))

-- for states that round n tells apart and no round before, the shortlex-least word that tells them apart
abbrev pub split_word : Automaton → ℕ → ℕ → ℕ → List ℕ
split_word d zero q r = []
split_word d (suc n) q r =
    let a = least (splits d (rounds d n) q r) d.letters in
    a ∷ split_word d n (d.step q a) (d.step r a)
