use Rattle.std.proofs.Common.{◌≡◌, ℕ, ◌<◌, ◌≤◌, [], length, slice_index_or, cond}
use Rattle.za_alpha.specs.Words.{has}
use Rattle.za_alpha.specs.Procs.{members}
use Rattle.za_gossip.specs.Rows.{blank_rows}
use Rattle.za_payload.specs.Inside.{AreFor}
use Rattle.za_payload.proofs.meeting.hand_out.Given as goal

-- the processes of the set below p have theirs, and the others what they had
abbrev pub invariant-loop-p : goal.invariant-loop-p
invariant-loop-p l =
    record {
      rows_for : AreFor (length l.fn.rows) l.rows;
      rows : (p : ℕ) → p < l.p → slice_index_or l.rows p (blank_rows 0) ≡ cond (has (members l.takes) p) l.next (slice_index_or l.fn.rows p (blank_rows 0));
      rows_left : (p : ℕ) → l.p ≤ p → slice_index_or l.rows p (blank_rows 0) ≡ slice_index_or l.fn.rows p (blank_rows 0);
      known : (p : ℕ) → p < l.p → slice_index_or l.known p [] ≡ cond (has (members l.takes) p) l.heard (slice_index_or l.fn.known p []);
      known_left : (p : ℕ) → l.p ≤ p → slice_index_or l.known p [] ≡ slice_index_or l.fn.known p [];
    }
