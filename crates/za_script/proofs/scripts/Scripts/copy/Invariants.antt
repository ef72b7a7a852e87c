use Rattle.std.proofs.Common.{◌≡◌, take}
use Rattle.za_script.proofs.scripts.Scripts.copy.Given as goal

abbrev pub invariant-loop-word : goal.invariant-loop-word
invariant-loop-word l = l.words.items ≡ take l.word-index l.self-inside.words.items
