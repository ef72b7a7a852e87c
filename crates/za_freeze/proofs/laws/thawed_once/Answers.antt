use Rattle.za_freeze.proofs.Undone.{thawed_once}
use Rattle.za_freeze.proofs.laws.thawed_once.Goals as goal

pub returns : goal.returns
returns c = thawed_once
