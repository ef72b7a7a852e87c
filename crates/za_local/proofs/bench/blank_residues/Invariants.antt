use Rattle.std.proofs.Common.{◌≡◌, replicate}
use Rattle.za_residue.specs.Functions.{identities}
use Rattle.za_local.proofs.bench.blank_residues.Given as goal

-- the first are there
abbrev pub invariant-loop : goal.invariant-loop
invariant-loop l = l.residues.items ≡ replicate l.counter (identities l.n l.states)
