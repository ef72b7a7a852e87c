use Rattle.std.proofs.Common.{◌≡◌, ℕ, ◌<◌, true}
use Rattle.za_names.specs.Names.{is_name}
use Rattle.za_text.specs.ProcessNames.{name_of}
use Rattle.za_text.proofs.names.Names.are_names.Given as goal

abbrev pub invariant-loop-p : goal.invariant-loop-p
invariant-loop-p l = (k : ℕ) → k < l.p → is_name (name_of l.self k) ≡ true
