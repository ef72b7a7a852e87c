-- What contracts see of a source over a reader and of a sink over a writer.
use Rattle.std.specs.Prelude.{ℕ}
use Rattle.za_base.specs.declared.std_ends.StdSource.{StdSource}
use Rattle.za_base.specs.declared.std_ends.StdSink.{StdSink}

-- the reader
abbrev pub source_reader : {R : Type 0} → StdSource R → R
source_reader s = s.reader

-- how many reads have failed
abbrev pub source_faults : {R : Type 0} → StdSource R → ℕ
source_faults s = s.faults

-- the writer
abbrev pub sink_writer : {W : Type 0} → StdSink W → W
sink_writer s = s.writer

-- how many writes have failed
abbrev pub sink_faults : {W : Type 0} → StdSink W → ℕ
sink_faults s = s.faults
