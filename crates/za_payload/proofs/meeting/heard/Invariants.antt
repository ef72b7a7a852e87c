use Rattle.std.proofs.Common.{◌≡◌, ℕ, ◌<◌, List, length, slice_index_or, Some, None, cond}
use Rattle.za_alpha.specs.Limits.{most_processes}
use Rattle.za_alpha.specs.Words.{has}
use Rattle.za_alpha.specs.Alphabet.{loc_of}
use Rattle.za_gossip.specs.Rows.{AreRowsAfter}
use Rattle.za_payload.specs.Circles.{known_in}
use Rattle.za_payload.specs.Private.Meeting.{best_of}
use Rattle.za_payload.proofs.meeting.heard.Given as goal

-- what is known of the processes below q is there
abbrev pub invariant-loop-q : goal.invariant-loop-q
invariant-loop-q l =
    record {
      long : length l.heard ≡ most_processes;
      made : (w : List ℕ) → AreRowsAfter l.alphabet w (loc_of l.alphabet l.a.0) l.inputs → (k : ℕ) → k < l.q →
          slice_index_or l.heard k None ≡ cond (has (loc_of l.alphabet l.a.0) k) (Some l.value) (known_in l.known (best_of l.alphabet w l.a.0 k) k);
    }
