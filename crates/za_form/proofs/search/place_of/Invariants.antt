use Rattle.std.proofs.Common.{ℕ, ◌≢◌, ◌<◌, slice_index}
use Rattle.za_form.proofs.search.place_of.Given as goal

-- none so far is the value
abbrev pub invariant-loop-k : goal.invariant-loop-k
invariant-loop-k l = (j : ℕ) → j < l.k → slice_index l.states j ≢ l.value
