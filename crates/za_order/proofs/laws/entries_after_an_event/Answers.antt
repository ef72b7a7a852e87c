use Rattle.za_order.proofs.Steps as steps
use Rattle.za_order.proofs.NextEntries as next
use Rattle.za_order.proofs.laws.entries_after_an_event.Goals as goal

pub returns : goal.returns
returns c = record {
  of_participants = steps.primary_of_participant;
  second_of_participants = next.secondary_of_participant;
  third_of_participants = next.tertiary_of_participant;
  joined = steps.primary_joined;
  second_joined = next.secondary_joined;
  third_joined = next.tertiary_joined;
  kept = steps.primary_kept;
  second_kept = next.secondary_kept;
  third_kept = next.tertiary_kept;
}
