use Rattle.std.proofs.Common.{◌≡◌, map, take}
use Rattle.za_dfa.specs.Tables.{accepts_at}
use Rattle.za_min.proofs.table.accepting_of.Given as goal

-- the answers of the states so far
abbrev pub invariant-loop-q : goal.invariant-loop-q
invariant-loop-q l = l.accepting.items ≡ map (accepts_at l.dfa) (take l.q-index l.states)
