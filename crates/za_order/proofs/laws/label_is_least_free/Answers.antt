use Rattle.za_order.proofs.Labels as laws
use Rattle.za_order.proofs.laws.label_is_least_free.Goals as goal

pub returns : goal.returns
returns c = record {
  free = laws.label_is_free;
  least = laws.label_is_least;
  bounded = laws.labels_are_bounded;
}
