use Rattle.za_form.proofs.BitSets.{has_bit-or}
use Rattle.za_form.proofs.places.either.Goals as goal

pub returns : goal.returns
returns c = record { bits = λ q. has_bit-or c.args.a c.args.b q }
