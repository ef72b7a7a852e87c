-- The scripts that the fields of a `Scripts` mean.
use Rattle.std.specs.Prelude.{◌≡◌, ℕ, List}
use Rattle.za_script.specs.declared.scripts.Scripts.TheInside.{Inside}
use Rattle.za_script.specs.ScriptLists.{total_of, AreScripts}

abbrev pub scripts_of : Inside → List (List ℕ)
scripts_of inside = inside.words.items

-- the count is that of all letters
pub record AreScriptsInside (inside : Inside) : Type 0 where
  pub counted : inside.letters ≡ total_of (scripts_of inside)
  pub limits : AreScripts (scripts_of inside)
