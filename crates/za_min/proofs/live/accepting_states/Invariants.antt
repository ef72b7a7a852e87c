use Rattle.std.proofs.Common.{◌≡◌, take}
use Rattle.za_min.proofs.live.accepting_states.Given as goal

abbrev pub invariant-loop-q : goal.invariant-loop-q
invariant-loop-q l = l.marks.items ≡ take l.q l.dfa.accepting
