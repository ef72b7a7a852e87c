use Rattle.std.proofs.Common.{◌≡◌, ◌+◌, ◌<◌, ◌≤◌, ℕ, cond, slice_index}
use Rattle.za_alpha.specs.Limits.{most_processes}
use Rattle.za_alpha.specs.Words.{has}
use Rattle.za_alpha.specs.Procs.{members}
use Rattle.za_news.proofs.weaving.count_event.Given as goal

abbrev pub invariant-loop-p : goal.invariant-loop-p
invariant-loop-p l = record {
  counted : (q : ℕ) → q < l.p → slice_index l.counts q ≡ slice_index l.fn.counts q + cond (has (members l.takes) q) 1 0;
  left : (q : ℕ) → l.p ≤ q → q < most_processes → slice_index l.counts q ≡ slice_index l.fn.counts q;
}
