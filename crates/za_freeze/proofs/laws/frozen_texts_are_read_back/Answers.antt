use Rattle.za_freeze.proofs.ReadBack.{frozen_texts_are_read_back}
use Rattle.za_freeze.proofs.laws.frozen_texts_are_read_back.Goals as goal

pub returns : goal.returns
returns c = frozen_texts_are_read_back
