-- Where an audit stands after some events: how many letters of its script each process has fired.
use Rattle.std.specs.Prelude.{◌≡◌, ℕ, ◌<◌, ◌≤◌, ◌&&◌, nat_lt, Bool, List, length, slice_index, IsTrue, IsFalse}
use Rattle.std.specs.List.{list_all}
use Rattle.za_alpha.specs.Words.{projection}
use Rattle.za_alpha.specs.Alphabet.{DistributedAlphabet, loc_of}
use Rattle.za_script.specs.Scripts.{comes_next}
use Rattle.za_script.specs.ScriptLists.{script_of}
use Rattle.za_lang.specs.Jobs.{JobData}
use Rattle.za_claim.specs.declared.claim.Event.{Event}
use Rattle.za_audit.specs.declared.verdict.Audit.{Audit}
use Rattle.za_audit.specs.declared.verdict.Audit.TheVariants.{BadLetter, BadLabel}
use Rattle.za_audit.specs.Verdicts.{HasBadLetter, HasBadLabel}

-- how many letters of the word each process has
pub record AreCounts (alphabet : DistributedAlphabet) (w counts : List ℕ) : Type 0 where
  pub size : alphabet.processes ≤ length counts
  pub each : (p : ℕ) → p < alphabet.processes → slice_index counts p ≡ length (projection (loc_of alphabet) p w)

-- whether the letter is one of the alphabet and the next of each of its processes, which have fired so many
abbrev pub is_next : DistributedAlphabet → List (List ℕ) → List ℕ → ℕ → Bool
is_next alphabet scripts counts a =
    nat_lt a (length alphabet.letters)
    && list_all (λ p. comes_next (script_of scripts p) (slice_index counts p) a) (loc_of alphabet a)

-- the letter is the least that is next
pub record IsLeastNext (alphabet : DistributedAlphabet) (scripts : List (List ℕ)) (counts : List ℕ) (a : ℕ)
    : Type 0 where
  pub next : IsTrue (is_next alphabet scripts counts a)
  pub below : (b : ℕ) → b < a → IsFalse (is_next alphabet scripts counts b)

-- no letter is
abbrev pub NoneIsNext : DistributedAlphabet → List (List ℕ) → List ℕ → Type 0
NoneIsNext alphabet scripts counts = (a : ℕ) → IsFalse (is_next alphabet scripts counts a)

-- each process has fired its whole script
abbrev pub AreUsedUp : List (List ℕ) → List ℕ → Type 0
AreUsedUp scripts counts = (p : ℕ) → p < length scripts → slice_index counts p ≡ length (script_of scripts p)

-- the verdict on events that aren't all right
abbrev pub IsFault : JobData → List Event → Audit → Type 0
IsFault job events (BadLetter at) = HasBadLetter job events at
IsFault job events (BadLabel at) = HasBadLabel job events at
IsFault job events _ = ⊥
