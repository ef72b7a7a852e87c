use Rattle.std.proofs.Common.{◌≡◌, []}
use Rattle.za_shared.specs.Records.{AreOfAWord}
use Rattle.knowledge_tests.proofs.shared.assert_numbers.Given as goal

abbrev pub invariant-loop-number : goal.invariant-loop-number
invariant-loop-number g l = (l.shared.own ≡ []) × AreOfAWord l.shared
