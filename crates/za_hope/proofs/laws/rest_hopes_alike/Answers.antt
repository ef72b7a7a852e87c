use Rattle.za_hope.proofs.Hoping.{rest_has_the_hope}
use Rattle.za_hope.proofs.laws.rest_hopes_alike.Goals as goal

pub returns : goal.returns
returns c = rest_has_the_hope
