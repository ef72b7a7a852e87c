-- What a run of the program does, from its source to its sink.
use Rattle.std.specs.Prelude.{◌≡◌, ℕ, ◌<◌, ◌≤◌, ◌+◌, Bool, true, false, IsTrue, List, length, take, Option}
use Rattle.std.specs.Io.KnownBytes.{Consumes, Appends, IsAtEnd}
use Rattle.za_base.specs.Read.{Took}
use Rattle.za_base.specs.Fault.{Rises}
use Rattle.za_base.specs.Ends.{Ends}
use Rattle.za_gen.specs.Generated.{generated_text}
use Rattle.za_query.specs.Replies.{IsReply}
use Rattle.zielonka.specs.Limits.{most_bytes}
use Rattle.zielonka.specs.declared.request.Request.{Request}
use Rattle.zielonka.specs.declared.request.Request.TheVariants.{Usage as AsksUsage}
use Rattle.zielonka.specs.declared.request.Request.TheVariants.{Answer as Asks, Ask as AsksReply, Generate as AsksJob}
use Rattle.zielonka.specs.Output.{IsOutput, usage_text, too_long_text}

-- whether what is asked is asked of the bytes of the source
abbrev pub reads_bytes : Request → Bool
reads_bytes AsksUsage = false
reads_bytes (Asks command) = true
reads_bytes (AsksReply query) = true
reads_bytes (AsksJob number) = false

-- the status and the text that are due for what is asked of bytes, and for these bytes
abbrev pub IsOutputOf : Request → List ℕ → ℕ → List ℕ → Type 0
IsOutputOf AsksUsage bytes status text = ⊥
IsOutputOf (Asks command) bytes status text = IsOutput command bytes status text
IsOutputOf (AsksReply query) bytes status text = IsReply query bytes status text
IsOutputOf (AsksJob number) bytes status text = ⊥

-- no read failed, and no write: the count of faults is what it was
abbrev pub NoReadFailed : Ends → Ends → Type 0
NoReadFailed old new = new.read_faults ≡ old.read_faults

abbrev pub NoWriteFailed : Ends → Ends → Type 0
NoWriteFailed old new = new.write_faults ≡ old.write_faults

-- the source was not read
abbrev pub ReadNothing : Ends → Ends → Type 0
ReadNothing old new = (new.left ≡ old.left) × NoReadFailed old new

-- these are all the bytes up to the source's end, and not too many
abbrev pub ReadAll : Ends → Ends → List ℕ → Type 0
ReadAll old new bytes =
    (length bytes ≤ most_bytes) × Consumes old.left new.left bytes × IsAtEnd new.left × NoReadFailed old new

-- no more bytes than the limit were taken from the source
abbrev pub ReadNotTooMany : Ends → Ends → Type 0
ReadNotTooMany old new = Took old.left new.left (λ n. n ≤ most_bytes)

-- nor any where nothing is asked of bytes
abbrev pub ReadAsAsked : Request → Ends → Ends → Type 0
ReadAsAsked asked old new = ReadNotTooMany old new × (reads_bytes asked ≡ false → new.left ≡ old.left)

-- one byte more than the limit was taken from the source
abbrev pub ReadTooMany : Ends → Ends → Type 0
ReadTooMany old new = Took old.left new.left (λ n. n ≡ most_bytes + 1) × NoReadFailed old new

-- nothing was written
abbrev pub WroteNothing : Ends → Ends → Type 0
WroteNothing old new = (new.written ≡ old.written) × NoWriteFailed old new

-- the text was written whole
abbrev pub WroteAll : Ends → Ends → List ℕ → Type 0
WroteAll old new text = Appends old.written new.written text × NoWriteFailed old new

-- the first k bytes of the text were written, fewer than all, and then the sink's count of faults rose
abbrev pub WrotePart : Ends → Ends → List ℕ → ℕ → Type 0
WrotePart old new text k =
    (k < length text) × Appends old.written new.written (take k text) × Rises old.write_faults new.write_faults

-- a text was written whole, no write failed, and the status is the one given; or a proper prefix of it, and then the
-- sink's count of faults rose, and the status is 7
pub data HasSaid (status : ℕ) (text : List ℕ) (written now : Option (List ℕ)) (before after : ℕ) : ℕ → Type 0 where
  Whole : Appends written now text → after ≡ before → HasSaid status text written now before after status
  Part : (k : ℕ) → k < length text → Appends written now (take k text) → Rises before after →
      HasSaid status text written now before after 7

-- the status and the text that are due for what is asked
pub data IsDue (asked : Request) (old new : Ends) : ℕ → List ℕ → Type 0 where
  Usage : asked ≡ AsksUsage → ReadNothing old new → IsDue asked old new 2 usage_text
  TooLong : IsTrue (reads_bytes asked) → ReadTooMany old new → IsDue asked old new 9 too_long_text
  Generated : (number : ℕ) → asked ≡ AsksJob number → ReadNothing old new →
      IsDue asked old new 0 (generated_text number)
  Said : (bytes : List ℕ) (status : ℕ) (text : List ℕ) → ReadAll old new bytes →
      IsOutputOf asked bytes status text → IsDue asked old new status text

-- what a run did of which this was asked, by the status that it ended with
pub data HasRun (asked : Request) (old new : Ends) : ℕ → Type 0 where
  -- the text that is due was written whole
  Wrote : (status : ℕ) (text : List ℕ) → IsDue asked old new status text → WroteAll old new text →
      HasRun asked old new status
  -- a write failed after a proper prefix of the text that is due
  WriteFault : (status k : ℕ) (text : List ℕ) → IsDue asked old new status text → WrotePart old new text k →
      HasRun asked old new 7
  -- the source's count of faults rose before too many bytes were taken
  ReadFault : IsTrue (reads_bytes asked) → ReadNotTooMany old new → Rises old.read_faults new.read_faults →
      WroteNothing old new → HasRun asked old new 6
  -- want of memory
  NoMemory : ReadAsAsked asked old new → NoReadFailed old new → WroteNothing old new → HasRun asked old new 8
