use Rattle.za_gossip.proofs.Renamed as laws
use Rattle.za_gossip.proofs.laws.only_equality_is_tested.Goals as goal

pub returns : goal.returns
returns c = record { newest = laws.newest_by_equality; label = laws.new_label_by_equality; update = laws.update_by_equality }
