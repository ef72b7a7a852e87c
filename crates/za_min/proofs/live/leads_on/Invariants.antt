use Rattle.std.proofs.Common.{ℕ, ◌<◌, IsTrue}
use Rattle.za_dfa.specs.Tables.{step_of}
use Rattle.za_min.specs.Live.{is_marked}
use Rattle.za_min.proofs.live.leads_on.Given as goal

abbrev pub invariant-loop-a : goal.invariant-loop-a
invariant-loop-a l = (a : ℕ) → a < l.a → IsTrue (is_marked l.marks (step_of l.dfa l.q a)) → ⊥
