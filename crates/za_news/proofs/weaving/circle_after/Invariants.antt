use Rattle.std.proofs.Common.{◌≡◌, ◌<◌, ℕ, length, slice_index, take}
use Rattle.za_alpha.specs.Limits.{most_processes}
use Rattle.za_alpha.specs.Words.{projection}
use Rattle.za_alpha.specs.Letters.{numbers}
use Rattle.za_alpha.specs.Alphabet.{loc_of}
use Rattle.za_news.specs.Private.Weaving.{IsNewsAfter}
use Rattle.za_news.proofs.weaving.circle_after.Given as goal

abbrev pub invariant-loop-i : goal.invariant-loop-i
invariant-loop-i l = record {
  news : IsNewsAfter l.alphabet l.readings (take l.i (numbers l.word)) l.circle;
  counts : (p : ℕ) → p < most_processes → slice_index l.counts p ≡ length (projection (loc_of l.alphabet) p (take l.i (numbers l.word)));
}
