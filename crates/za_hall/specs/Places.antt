-- Where the events of a process stand in a journal.
use Rattle.std.specs.Prelude.{ℕ, List, length, filter}
use Rattle.std.specs.List.{range_with_len}
use Rattle.za_alpha.specs.Words.{has}
use Rattle.za_order.specs.Views.{participants}
use Rattle.za_machine.specs.Machine.{Machine}

-- the places of the events of the process, in order
abbrev pub places : Machine → ℕ → List ℕ → List ℕ
places m p w = filter (λ i. has (participants m.loc w i) p) (range_with_len 0 (length w))
