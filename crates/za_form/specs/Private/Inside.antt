-- What holds inside of a `Form`.
use Rattle.std.specs.Prelude.{◌≤◌, length}
use Rattle.za_expression.specs.Limits.{most_signs}
use Rattle.za_expression.specs.Grammar.{IsForm}
use Rattle.za_form.specs.declared.form.Form.TheInside.{Inside}
use Rattle.za_form.specs.Private.Trees.{form}

-- the tree is the form that the signs are
pub record IsExpressionInside (inside : Inside) : Type 0 where
  pub few : length inside.signs.items ≤ most_signs
  pub is : IsForm 1 inside.signs.items (form inside.tree)
