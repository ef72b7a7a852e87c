-- The participants of the events of a word over an alphabet.
use Rattle.std.proofs.Common.{◌≡◌, ℕ, ◌<◌, true, List, length, slice_index}
use Rattle.std.proofs.lemmas.List.Elements.{All-get_or}
use Rattle.za_alpha.specs.Words.{has, IsAlphabet, IsWord}
use Rattle.za_order.specs.Views.{participants}

-- each event of the word has a letter and a participant, and each participant is a process
pub record IsOver (loc : ℕ → List ℕ) (letters processes : ℕ) (w : List ℕ) : Type 0 where
  pub letter : (i : ℕ) → i < length w → slice_index w i < letters
  pub some : (i : ℕ) → i < length w → (p : ℕ) × (has (participants loc w i) p ≡ true)
  pub below : (i p : ℕ) → i < length w → has (participants loc w i) p ≡ true → p < processes

-- a word over an alphabet is such
pub word-over : (loc : ℕ → List ℕ) (letters processes : ℕ) (w : List ℕ) → IsAlphabet loc letters processes → IsWord letters w → IsOver loc letters processes w
word-over loc letters processes w alphabet word =
    let letter : (i : ℕ) → i < length w → slice_index w i < letters = λ i l. All-get_or (λ a. a < letters) w i 0 l word in
    record {
      letter = letter;
      some = λ i l. alphabet.some (slice_index w i) (letter i l);
      below = λ i p l h. alphabet.below (slice_index w i) p (letter i l) h;
    }
