use Rattle.std.proofs.Common.{map}
use Rattle.za_alpha.proofs.Indexed.{IsOnChain}
use Rattle.za_alpha.proofs.index.place_of_name.Given as goal

-- no letter from this place on has the name, and the one before has its key
abbrev pub invariant-chain : goal.invariant-chain
invariant-chain g l = IsOnChain (map g.N.Named.letter l.items) l.name l.at

abbrev pub decreases-chain : goal.decreases-chain
decreases-chain g l = l.at
