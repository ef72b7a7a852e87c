use Rattle.za_order.proofs.ViewLaws as laws
use Rattle.za_order.proofs.laws.tertiary_covers.Goals as goal

pub returns : goal.returns
returns c = laws.tertiary_covers
