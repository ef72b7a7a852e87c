use Rattle.std.proofs.Common.{◌≡◌, ◌<◌, ◌≤◌, All, length, take}
use Rattle.za_alpha.specs.Limits.{most_processes}
use Rattle.za_alpha.specs.Procs.{members_below}
use Rattle.za_payload.proofs.meeting.list_participants.Given as goal

-- the participants below p are listed
abbrev pub invariant-loop-p : goal.invariant-loop-p
invariant-loop-p l =
    record {
      within : l.count ≤ l.p;
      listed : take l.count l.into ≡ members_below l.takes l.p;
      below : All (λ q. q < l.alphabet.processes) (take l.count l.into);
      long : length l.into ≡ most_processes;
    }
