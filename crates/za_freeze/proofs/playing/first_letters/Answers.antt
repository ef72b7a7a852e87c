use Rattle.std.proofs.Common.{sym}
use Rattle.std.proofs.lemmas.List.{take-map}
use Rattle.za_alpha.specs.declared.word.Letter.{Letter}
use Rattle.za_freeze.proofs.playing.first_letters.Goals as goal

pub returns-then-count-letters : goal.returns-then-count-letters
returns-then-count-letters c = sym (take-map (λ (a : Letter). a.0) c.args.count c.args.letters.now)
