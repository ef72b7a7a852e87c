use Rattle.za_order.proofs.Equivalent as laws
use Rattle.za_order.proofs.laws.equivalent_words_agree.Goals as goal

pub returns : goal.returns
returns c = record {
  events = laws.events_match;
  views = laws.views_agree;
  primary = laws.primary_entries_agree;
  secondary = laws.secondary_entries_agree;
  tertiary = laws.tertiary_entries_agree;
  labels = laws.labels_agree;
  ids = laws.ids_agree;
}
