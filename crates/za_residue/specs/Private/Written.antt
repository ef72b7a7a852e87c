-- Functions that are written.
use Rattle.std.specs.Prelude.{◌≡◌, ℕ, ◌+◌, ◌*◌, ◌<◌, ◌≤◌, Bool, ◌||◌, List, [], ◌∷◌, ◌++◌, IsTrue, length, slice_index}
use Rattle.za_alpha.specs.Words.{has}
use Rattle.za_alpha.specs.Alphabet.{loc_of}
use Rattle.za_order.specs.Locals.{residue_word}
use Rattle.za_dfa.specs.Automata.{walk}
use Rattle.za_dfa.specs.Tables.{CompleteDfa, step_of}
use Rattle.za_residue.specs.declared.masks.Masks.{Masks}
use Rattle.za_residue.specs.Functions.{Functions, in_set}
use Rattle.za_residue.specs.Masks.{AreResiduesAfter, AreMasksAfter}

-- the states to which the letter leads from each state of the table, by state
pub record AreSteps (d : CompleteDfa) (a : ℕ) (column : List ℕ) : Type 0 where
  pub room : d.states ≤ length column
  pub steps : (q : ℕ) → q < d.states → slice_index column q ≡ step_of d q a
  pub within : (q : ℕ) → q < d.states → slice_index column q < d.states

-- what the participants of the letter keep after the word, and what they share
pub record AreGiven (d : CompleteDfa) (a : ℕ) (inputs : List Functions) (masks : Masks) (w : List ℕ) : Type 0 where
  pub residues : AreResiduesAfter d w (loc_of d.alphabet a) inputs
  pub shared : AreMasksAfter d.alphabet w (loc_of d.alphabet a) masks

-- where x leads from q after the word and the letter, for the set
abbrev pub residue_next : CompleteDfa → ℕ → List ℕ → ℕ → (ℕ → Bool) → ℕ → ℕ
residue_next d a w x set q =
    walk (step_of d) q
    (residue_word (loc_of d.alphabet) d.alphabet.processes (w ++ a ∷ []) (length (w ++ a ∷ [])) x set)

-- the block has the values after the event of the letter for the first `count` sets, the set joined to each
pub record AreWritten (d : CompleteDfa) (a : ℕ) (inputs : List Functions) (masks : Masks) (set : ℕ → Bool) (count : ℕ)
    (block : List ℕ) : Type 0 where
  pub below : (m q : ℕ) → m < count → q < d.states → slice_index block (m * d.states + q) < d.states
  pub values : (w : List ℕ) → AreGiven d a inputs masks w → (x : ℕ) → IsTrue (has (loc_of d.alphabet a) x) →
      (m q : ℕ) → m < count → q < d.states →
      slice_index block (m * d.states + q) ≡ residue_next d a w x (λ y. set y || in_set m y) q
