use Rattle.std.proofs.Common.{ℕ, ◌<◌, IsTrue}
use Rattle.za_dfa.specs.Tables.{automaton_of}
use Rattle.za_min.specs.Live.{is_marked}
use Rattle.za_min.specs.Private.Spreading.{LeadsOn}
use Rattle.za_min.proofs.live.next_alive.Given as goal

abbrev pub invariant-loop-q : goal.invariant-loop-q
invariant-loop-q l = (q : ℕ) → q < l.q → LeadsOn (automaton_of l.dfa) l.marks q → IsTrue (is_marked l.marks q)
