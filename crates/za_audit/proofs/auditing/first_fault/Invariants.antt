use Rattle.std.proofs.Common.{◌≡◌, length, take}
use Rattle.za_lang.specs.Answers.{data_of}
use Rattle.za_claim.specs.Claims.{event_letters}
use Rattle.za_audit.specs.Private.Standing.{AreCounts}
use Rattle.za_audit.specs.Verdicts.{AreRight}
use Rattle.za_audit.proofs.auditing.first_fault.Given as goal

abbrev pub invariant-loop-at : goal.invariant-loop-at
invariant-loop-at l =
    record {
      right : AreRight (data_of l.job) l.events l.at;
      counts : AreCounts l.job.lang.table.alphabet (take l.at (event_letters l.events)) l.counts;
      marks : l.marks ≡ record { alphabet = l.job.lang.table.alphabet; word = take l.at (event_letters l.events); room = length l.events };
    }
