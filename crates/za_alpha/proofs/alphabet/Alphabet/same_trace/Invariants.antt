use Rattle.std.proofs.Common.{◌≡◌, ℕ, ◌<◌}
use Rattle.za_alpha.specs.Words.{projection}
use Rattle.za_alpha.specs.Alphabet.{loc_of}
use Rattle.za_alpha.proofs.alphabet.Alphabet.same_trace.Given as goal

-- the projections on the processes so far are equal
abbrev pub invariant-loop-p : goal.invariant-loop-p
invariant-loop-p l = (q : ℕ) → q < l.p → projection (loc_of l.self) q l.u ≡ projection (loc_of l.self) q l.v
