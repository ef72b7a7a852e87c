use Rattle.std.proofs.Common.{◌≡◌, ℕ, ◌-◌, ◌<◌, ◌||◌, false, length, slice_index_or}
use Rattle.std.specs.List.{range_with_len, list_any}
use Rattle.za_views.specs.Private.Events.{known}
use Rattle.za_views.specs.Private.Taken.{is_label_taken}
use Rattle.za_views.proofs.labels.+mark_taken.Given as goal

abbrev pub decreases-mark_taken : goal.decreases-mark_taken
decreases-mark_taken l = l.steps

-- what is found through the processes so far is marked
abbrev pub invariant-loop-q : goal.invariant-loop-q
invariant-loop-q l =
    (k : ℕ) → k < length l.taken →
    slice_index_or l.taken k false ≡ (slice_index_or l.fn.taken k false || list_any
    (λ q. is_label_taken l.events l.processes l.letter.0 k (l.steps - 1) (known l.events l.e q)) (range_with_len 0 l.q))
