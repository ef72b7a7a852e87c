-- One of the three rows.
use Rattle.std.specs.Prelude.{ℕ, List}
use Rattle.za_gossip.specs.declared.gossip.Level.{Level}
use Rattle.za_gossip.specs.declared.gossip.Level.TheVariants.{Primary, Secondary, Tertiary}
use Rattle.za_gossip.specs.Rows.{Rows}

abbrev pub level_of : Level → Rows → List ℕ
level_of Primary rows = rows.primary
level_of Secondary rows = rows.secondary
level_of Tertiary rows = rows.tertiary
