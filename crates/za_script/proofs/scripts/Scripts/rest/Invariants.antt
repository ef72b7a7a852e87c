use Rattle.std.proofs.Common.{◌≡◌, map}
use Rattle.std.specs.List.{range_with_len}
use Rattle.za_alpha.specs.Letters.{numbers}
use Rattle.za_alpha.specs.Alphabet.{loc_of}
use Rattle.za_script.specs.Scripts.{total}
use Rattle.za_script.specs.ScriptLists.{script_of}
use Rattle.za_script.specs.Rests.{rests}
use Rattle.za_script.proofs.scripts.Scripts.rest.Given as goal

-- what is left of the first scripts, and how many letters that is
abbrev pub invariant-loop-p : goal.invariant-loop-p
invariant-loop-p l = record {
  words : l.words.items ≡ map (rests (loc_of l.alphabet) (script_of l.self) (numbers l.word)) (range_with_len 0 l.p);
  letters : l.letters ≡ total (rests (loc_of l.alphabet) (script_of l.self) (numbers l.word)) l.p;
}
