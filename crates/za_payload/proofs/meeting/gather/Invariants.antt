use Rattle.std.proofs.Common.{◌≡◌, length, map, take, slice_index_or}
use Rattle.za_gossip.specs.Rows.{blank_rows}
use Rattle.za_payload.specs.Inside.{AreFor}
use Rattle.za_payload.proofs.meeting.gather.Given as goal

-- the first i are copied
abbrev pub invariant-loop-i : goal.invariant-loop-i
invariant-loop-i l =
    record {
      long : length l.inputs ≡ length l.fn.inputs;
      inputs_for : AreFor (length l.rows) l.inputs;
      copied : take l.i l.inputs ≡ map (λ p. slice_index_or l.rows p (blank_rows 0)) (take l.i l.processes);
    }
