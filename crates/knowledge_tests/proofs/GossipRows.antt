-- The rows of all processes after a word.
use Rattle.std.proofs.Common.{◌≡◌, ℕ, ◌<◌, List, [], ◌∷◌, ◌++◌, length, get_or, ap, ◌∙◌, arith}
use Rattle.std.specs.List.{range_with_len}
use Rattle.std.proofs.lemmas.List.Elements.{All-push}
use Rattle.std.proofs.lemmas.List.FromFn.{length-map-range_with_len, get_or-map-range_with_len}
use Rattle.za_alpha.specs.Words.{IsWord}
use Rattle.za_alpha.specs.Alphabet.{DistributedAlphabet, loc_of}
use Rattle.za_order.specs.Locals.{ids}
use Rattle.za_gossip.specs.Rows.{Rows, rows_after, AreRowsAfter}

module _ (alphabet : DistributedAlphabet) (w : List ℕ) (states : List Rows) (given : AreRowsAfter alphabet w (range_with_len 0 alphabet.processes) states) where
  pub row-at : (x : ℕ) (d : Rows) → x < alphabet.processes → get_or states x d ≡ rows_after (loc_of alphabet) alphabet.processes w x
  row-at x d l =
      ap (λ rows. get_or rows x d) given.rows
      ∙ get_or-map-range_with_len (rows_after (loc_of alphabet) alphabet.processes w) 0 alphabet.processes x x d l (omega arith)

  pub length-all : length states ≡ alphabet.processes
  length-all = ap length given.rows ∙ length-map-range_with_len (rows_after (loc_of alphabet) alphabet.processes w) 0 alphabet.processes

  -- the longer word is over the alphabet
  pub word-longer : (a : ℕ) → a < length alphabet.letters → IsWord (length alphabet.letters) (w ++ a ∷ [])
  word-longer a small = let P : ℕ → Type 0 = λ b. b < length alphabet.letters in All-push P w a given.word small

-- the length of a primary row
pub length-primary : (loc : ℕ → List ℕ) (n : ℕ) (w : List ℕ) (x : ℕ) → length (rows_after loc n w x).primary ≡ n
length-primary loc n w x = length-map-range_with_len (ids loc n w (length w) x).primary 0 n
