use Rattle.std.proofs.Common.{◌≡◌, ℕ, ◌<◌, length, take}
use Rattle.za_alpha.specs.Words.{projection}
use Rattle.za_alpha.specs.Letters.{numbers}
use Rattle.za_alpha.specs.Alphabet.{loc_of}
use Rattle.za_script.specs.ScriptLists.{script_of}
use Rattle.za_gen.specs.Generated.{generated_alphabet}
use Rattle.za_gen.proofs.scripts.scripts_of.Given as goal

abbrev pub invariant-loop-a : goal.invariant-loop-a
invariant-loop-a l =
    record {
      size : length l.scripts ≡ 4;
      seen : (p : ℕ) → p < 4 → script_of l.scripts p ≡ projection (loc_of generated_alphabet) p (take l.a-index (numbers l.letters));
    }
