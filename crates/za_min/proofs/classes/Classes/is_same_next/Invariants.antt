use Rattle.std.proofs.Common.{◌≡◌, ℕ, ◌<◌, slice_index}
use Rattle.za_dfa.specs.Tables.{step_of}
use Rattle.za_min.proofs.classes.Classes.is_same_next.Given as goal

-- each letter so far leads the states into one class
abbrev pub invariant-loop-a : goal.invariant-loop-a
invariant-loop-a l = (k : ℕ) → k < l.a → slice_index l.self (step_of l.dfa l.q k) ≡ slice_index l.self (step_of l.dfa l.r k)
