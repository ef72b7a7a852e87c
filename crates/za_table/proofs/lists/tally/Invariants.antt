use Rattle.std.proofs.Common.{◌≡◌, ℕ, ◌≤◌, ◌-◌}
use Rattle.std.specs.Prelude.{slice_index, slice_index_or, None}
use Rattle.za_alpha.specs.Procs.{members}
use Rattle.za_machine.specs.Machine.{is_in}
use Rattle.za_table.specs.Private.Steps.{HasTallied}
use Rattle.za_table.proofs.lists.tally.Given as goal

abbrev pub invariant-members : goal.invariant-members
invariant-members l =
    record {
      few : l.start ≤ 16;
      done : HasTallied (record { counts = l.initial.counts; arrived = l.initial.arrived; latest = l.initial.latest })
          (record { counts = l.counts; arrived = l.arrived; latest = l.latest }) l.start (members l.processes) l.at;
      counts : (p : ℕ) → l.start ≤ p → slice_index l.counts p ≡ slice_index l.initial.counts p;
      arrived : (p : ℕ) → l.start ≤ p → is_in l.arrived p ≡ is_in l.initial.arrived p;
      latest : (p : ℕ) → l.start ≤ p → slice_index_or l.latest p None ≡ slice_index_or l.initial.latest p None;
    }

abbrev pub decreases-members : goal.decreases-members
decreases-members l = 16 - l.start
