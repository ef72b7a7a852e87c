use Rattle.std.proofs.Common.{◌≡◌, ◌+◌, ◌≤◌, length}
use Rattle.std.specs.Option.{option_map}
use Rattle.za_text.specs.Lines.{lines_of}
use Rattle.za_freeze.specs.Thawing.{first_other}
use Rattle.za_freeze.proofs.FirstOther.{left_over}
use Rattle.za_freeze.proofs.comparing.first_other.Given as goal

-- the texts are the same up to here, and have so many lines
abbrev pub invariant-loop-i : goal.invariant-loop-i
invariant-loop-i l = record {
  few : l.line ≤ l.i + 1;
  within : l.i ≤ length l.other;
  left : option_map (λ n. n + 1) (first_other (lines_of l.text) (lines_of l.other)) ≡ left_over l.line l.i l.text l.other;
}
