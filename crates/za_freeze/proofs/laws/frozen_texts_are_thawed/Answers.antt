use Rattle.za_freeze.proofs.Undone.{frozen_texts_are_thawed}
use Rattle.za_freeze.proofs.laws.frozen_texts_are_thawed.Goals as goal

pub returns : goal.returns
returns c = frozen_texts_are_thawed
