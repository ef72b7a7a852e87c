use Rattle.std.proofs.Common.{◌≡◌, ◌-◌, length, drop, ◌↔◌, ◌≤◌, ◌<◌, IsTrue}
use Rattle.std.specs.Prelude.{slice_index}
use Rattle.za_alpha.specs.Words.{has, projection}
use Rattle.za_alpha.specs.Letters.{numbers}
use Rattle.za_alpha.specs.Alphabet.{loc_of}
use Rattle.za_alpha.proofs.alphabet.Alphabet.same_projection.Given as goal

-- what is left is equal exactly if all is
abbrev pub invariant-letters : goal.invariant-letters
invariant-letters l = record {
  first : l.i ≤ length l.u;
  second : l.j ≤ length l.v;
  first_there : l.i < length l.u → IsTrue (has (loc_of l.self (slice_index (numbers l.u) l.i)) l.p);
  second_there : l.j < length l.v → IsTrue (has (loc_of l.self (slice_index (numbers l.v) l.j)) l.p);
  left : (projection (loc_of l.self) l.p (drop l.i (numbers l.u)) ≡ projection (loc_of l.self) l.p (drop l.j (numbers l.v)))
      ↔ (projection (loc_of l.self) l.p (numbers l.u) ≡ projection (loc_of l.self) l.p (numbers l.v));
}

abbrev pub decreases-letters : goal.decreases-letters
decreases-letters l = length l.u - l.i
