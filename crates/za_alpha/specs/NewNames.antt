-- What is wrong with the name of one letter more.
use Rattle.std.specs.Prelude.{ℕ, Bool, not, List, Option, Some, None, if◌then◌else◌}
use Rattle.std.specs.List.{list_any}
use Rattle.std.specs.Str.{bytes_eq}
use Rattle.za_names.specs.Names.{is_name}
use Rattle.za_alpha.specs.declared.fault.NameFault.{NameFault}
use Rattle.za_alpha.specs.declared.fault.NameFault.TheVariants.{Bad, Repeated}
use Rattle.za_alpha.specs.Alphabet.{NamedLetter}

-- one of the letters has the name
abbrev pub is_taken : List NamedLetter → List ℕ → Bool
is_taken letters name = list_any (λ (l : NamedLetter). bytes_eq l.name name) letters

-- that it is no name, and then that a letter has it
abbrev pub name_fault : List NamedLetter → List ℕ → Option NameFault
name_fault letters name =
    if not (is_name name) then Some Bad else (if is_taken letters name then Some Repeated else None)
