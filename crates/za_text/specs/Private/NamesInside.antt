-- The names that the fields of a `Names` mean.
use Rattle.std.specs.Prelude.{ℕ, List, map}
use Rattle.std.specs.declared.alloc.Global.{Global}
use Rattle.std.specs.declared.vec.Vec.{Vec}
use Rattle.za_text.specs.declared.names.Names.TheInside.{Inside}
use Rattle.za_text.specs.ProcessNames.{AreNames}

-- a name, wherever it lies in memory
abbrev pub bytes_of : Vec ℕ Global → List ℕ
bytes_of name = name.items

abbrev pub names_inside : Inside → List (List ℕ)
names_inside inside = map bytes_of inside.names.items

abbrev pub AreNamesInside : Inside → Type 0
AreNamesInside inside = AreNames (names_inside inside)
