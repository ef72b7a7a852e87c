use Rattle.std.proofs.Common.{◌≡◌, length, take}
use Rattle.za_alpha.specs.Letters.{numbers}
use Rattle.callers.proofs.views.news.Given as goal

abbrev pub invariant-loop-a : goal.invariant-loop-a
invariant-loop-a l = record {
  alphabet : l.marks.alphabet ≡ l.alphabet;
  room : l.marks.room ≡ length l.w;
  word : l.marks.word ≡ numbers (take l.a-index l.letters);
}
