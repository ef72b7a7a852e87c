use Rattle.std.proofs.Common.{◌≡◌, []}
use Rattle.za_shared.specs.Records.{AreOfAWord}
use Rattle.knowledge_tests.proofs.shared.assert_all_fired.Given as goal

abbrev pub invariant-loop-case : goal.invariant-loop-case
invariant-loop-case g l = (l.shared.own ≡ []) × AreOfAWord l.shared
