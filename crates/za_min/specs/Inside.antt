-- What contracts see of a `Minimal`.
use Rattle.za_dfa.specs.Tables.{IsComplete}
use Rattle.za_min.specs.declared.minimal.Minimal.TheInside.{Inside}
use Rattle.za_min.specs.Minimal.{MinimalDfa, IsMinimalDfa}

abbrev pub minimal_of : Inside → MinimalDfa
minimal_of inside = record { dfa = inside.dfa; access = inside.access.items }

pub record IsMinimalInside (inside : Inside) : Type 0 where
  pub whole : IsComplete inside.dfa
  pub minimal : IsMinimalDfa (minimal_of inside)
