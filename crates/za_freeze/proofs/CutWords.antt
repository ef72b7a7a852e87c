-- The first letters of a weave.
use Rattle.std.proofs.Common.{◌<◌, ℕ, List, length, take}
use Rattle.std.proofs.lemmas.List.Elements.{All-take}
use Rattle.za_alpha.specs.Words.{IsWord}
use Rattle.za_alpha.specs.Alphabet.{DistributedAlphabet, IsDistributed, loc_of}
use Rattle.za_script.specs.ScriptLists.{script_of}
use Rattle.za_script.specs.Woven.{weave_of}
use Rattle.za_script.proofs.Confluence.{weave_is_maximal}

pub cut-is-word : (alphabet : DistributedAlphabet) (scripts : List (List ℕ)) (k : ℕ) → IsDistributed alphabet →
    IsWord (length alphabet.letters) (take k (weave_of alphabet scripts))
cut-is-word alphabet scripts k whole =
    All-take (λ a. a < length alphabet.letters) k (weave_of alphabet scripts)
    (weave_is_maximal (loc_of alphabet) (length alphabet.letters) alphabet.processes (script_of scripts) whole.located).fits.word
