-- The list of where the entries after an event come from, made process by process.
use Rattle.std.proofs.Common.{◌≡◌, ℕ, ◌<◌, ◌≤◌, List, length, get_or, Option, Some, None}
use Rattle.za_alpha.specs.Alphabet.{DistributedAlphabet, loc_of}
use Rattle.za_gossip.specs.Rows.{Rows, AreRowsAfter}
use Rattle.za_gossip.specs.Private.Sources.{IsSource}

-- the list has room for each process, and the sources of those below q
pub record AreSourcesBelow (alphabet : DistributedAlphabet) (a : ℕ) (inputs : List Rows) (sources : List (Option ℕ)) (q : ℕ) : Type 0 where
  pub room : alphabet.processes ≤ length sources
  pub within : (k b : ℕ) → get_or sources k None ≡ Some b → b < length inputs
  pub done : (w : List ℕ) → AreRowsAfter alphabet w (loc_of alphabet a) inputs → (k : ℕ) → k < q → IsSource alphabet w a k (get_or sources k None)
  pub rest : (k : ℕ) → q ≤ k → get_or sources k None ≡ None
