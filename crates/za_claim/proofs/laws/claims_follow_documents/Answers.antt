use Rattle.za_claim.proofs.ReadBack.{follow}
use Rattle.za_claim.proofs.laws.claims_follow_documents.Goals as goal

pub returns : goal.returns
returns c = follow
