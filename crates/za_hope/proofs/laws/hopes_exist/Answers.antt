use Rattle.za_hope.proofs.Hoping.{hopes_exist}
use Rattle.za_hope.proofs.laws.hopes_exist.Goals as goal

pub returns : goal.returns
returns c = hopes_exist
