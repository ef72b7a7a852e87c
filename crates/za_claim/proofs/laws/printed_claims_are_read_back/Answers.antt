use Rattle.za_claim.proofs.ReadBack.{read_back}
use Rattle.za_claim.proofs.laws.printed_claims_are_read_back.Goals as goal

pub returns : goal.returns
returns c = read_back
