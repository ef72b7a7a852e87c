use Rattle.std.proofs.Common.{◌≡◌, ℕ, ◌<◌, ◌==◌, ◌&&◌, not}
use Rattle.std.specs.Prelude.{nat_lt, All, Some, None, if◌then◌else◌}
use Rattle.za_dfa.specs.declared.rows.Row.{Row}
use Rattle.za_dfa.specs.Rows.{target_in}
use Rattle.callers.proofs.automata.rows_without.Given as goal

abbrev pub invariant-loop-b : goal.invariant-loop-b
invariant-loop-b l = record {
  known : All (λ (row : Row). row.letter.0 < l.letters) l.rows.items;
  targets : (q b : ℕ) → target_in l.rows.items q b ≡ (if q == 0 && (nat_lt b l.b && not (b == l.a.0)) then Some 0 else None);
}
