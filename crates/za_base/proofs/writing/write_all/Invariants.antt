use Rattle.std.proofs.Common.{◌≡◌, ◌≤◌, ◌-◌, length, take}
use Rattle.std.specs.Io.KnownBytes.{Appends}
use Rattle.za_base.proofs.writing.write_all.Given as goal

-- what was appended so far is the text up to `at`, and the count of faults stays
abbrev pub invariant-turns : goal.invariant-turns
invariant-turns g l = record {
  within : l.at ≤ length l.text;
  written : Appends (g.K.Sink.written l.fn.sink) (g.K.Sink.written l.sink) (take l.at l.text);
  stays : g.K.Sink.faults l.sink ≡ g.K.Sink.faults l.fn.sink;
}

abbrev pub decreases-turns : goal.decreases-turns
decreases-turns g l = length l.text - l.at
