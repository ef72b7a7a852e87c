-- How many inputs there are, and how long their rows.
use Rattle.std.proofs.Common.{◌≡◌, ℕ, ◌<◌, ◌≤◌, List, Option, Some, None, length, get_or, map, ap, ◌∙◌, arith}
use Rattle.std.specs.Prelude.{IfSome}
use Rattle.std.proofs.lemmas.List.{length-map}
use Rattle.std.proofs.lemmas.List.FromFn.{length-map-range_with_len, length-range_with_len}
use Rattle.za_alpha.specs.declared.word.Letter.{Letter}
use Rattle.za_alpha.specs.Words.{IsWord}
use Rattle.za_alpha.specs.Alphabet.{DistributedAlphabet, IsDistributed, loc_of, procs_at}
use Rattle.za_order.specs.Locals.{ids}
use Rattle.za_order.proofs.Rising.{length-members-le}
use Rattle.za_gossip.specs.Rows.{Rows, rows_after, AreRowsAfter}
use Rattle.za_local.specs.Private.Shared.{meeting_of}
use Rattle.za_local.proofs.SharedNumbers.{row-at}

module _ (alphabet : DistributedAlphabet) (whole : IsDistributed alphabet) where
  -- a letter has no more participants than there are processes
  pub few-participants : (a : ℕ) → a < length alphabet.letters → length (loc_of alphabet a) ≤ alphabet.processes
  few-participants a small =
      let few = whole.few_processes in
      length-members-le (procs_at alphabet.letters a) alphabet.processes (omega arith) (λ p h. whole.located.below a p small h)

  few-meet : (a : Option Letter) → IfSome a (λ a. a.0 < length alphabet.letters) → length (meeting_of alphabet a) ≤ alphabet.processes
  few-meet None small = let e = length-range_with_len 0 alphabet.processes in omega arith
  few-meet (Some a) small = few-participants a.0 small

  -- the primary row of an input has an entry for each process
  pub row-length : (w : List ℕ) → IsWord (length alphabet.letters) w → (xs : List ℕ) (inputs : List Rows) → inputs
      ≡ map (rows_after (loc_of alphabet) alphabet.processes w) xs →
      (k : ℕ) (d : Rows) → k < length inputs → length (get_or inputs k d).primary ≡ alphabet.processes
  row-length w word xs inputs given k d l =
      ap (λ (r : Rows). length r.primary) (row-at alphabet whole w word xs inputs given k d l)
      ∙ length-map-range_with_len (ids (loc_of alphabet) alphabet.processes w (length w) (get_or xs k 0)).primary 0 alphabet.processes

  -- there are no more inputs than processes
  pub few-rows : (w : List ℕ) (a : Option Letter) → IfSome a (λ a. a.0 < length alphabet.letters) → (inputs : List Rows) →
      AreRowsAfter alphabet w (meeting_of alphabet a) inputs → length inputs ≤ alphabet.processes
  few-rows w a small inputs given =
      let long = ap length given.rows ∙ length-map (meeting_of alphabet a) (rows_after (loc_of alphabet) alphabet.processes w) in
      let few = few-meet a small in omega arith
