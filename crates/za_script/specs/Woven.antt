-- What contracts see of a woven word, and that it is the weave of scripts.
use Rattle.std.specs.Prelude.{◌≡◌, ◌<◌, ℕ, Bool, List, length, slice_index}
use Rattle.za_alpha.specs.Words.{projection}
use Rattle.za_alpha.specs.Alphabet.{DistributedAlphabet, loc_of}
use Rattle.za_script.specs.Scripts.{weave}
use Rattle.za_script.specs.ScriptLists.{script_of}

-- the word, how many letters of it each process has, and whether the scripts are used up
pub record WovenWord : Type 0 where
  pub word : List ℕ
  pub counts : List ℕ
  pub whole : Bool

-- the weave of the scripts of an alphabet's processes
abbrev pub weave_of : DistributedAlphabet → List (List ℕ) → List ℕ
weave_of alphabet scripts = weave (loc_of alphabet) (length alphabet.letters) alphabet.processes (script_of scripts)

-- the woven word is the weave of the scripts, with the counts of its projections
pub record IsWeave (alphabet : DistributedAlphabet) (scripts : List (List ℕ)) (woven : WovenWord) : Type 0 where
  pub word : woven.word ≡ weave_of alphabet scripts
  pub processes : length woven.counts ≡ alphabet.processes
  pub counts : (p : ℕ) → p < alphabet.processes →
      slice_index woven.counts p ≡ length (projection (loc_of alphabet) p woven.word)
