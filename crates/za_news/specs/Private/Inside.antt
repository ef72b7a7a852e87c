-- The readings that the fields of a `Readings` mean.
use Rattle.std.specs.Prelude.{ℕ, List, map}
use Rattle.std.specs.declared.alloc.Global.{Global}
use Rattle.std.specs.declared.vec.Vec.{Vec}
use Rattle.za_news.specs.declared.readings.Readings.TheInside.{Inside}

-- a list, wherever it lies in memory
abbrev pub numbers_of : Vec ℕ Global → List ℕ
numbers_of list = list.items

abbrev pub lists_of : Inside → List (List ℕ)
lists_of inside = map numbers_of inside.lists.items
