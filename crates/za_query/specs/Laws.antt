-- Which replies there are, and when each comes.
use Rattle.std.specs.Prelude.{◌≡◌, ◌↔◌, ℕ, List}
use Rattle.za_alpha.specs.Alphabet.{loc_of}
use Rattle.za_dfa.specs.Partials.{completion}
use Rattle.za_dfa.specs.Tables.{automaton_of}
use Rattle.za_closure.specs.Breaks.{Break, IsBreak}
use Rattle.za_text.specs.declared.kind.TextFault.{TextFault}
use Rattle.za_lang.specs.Jobs.{JobData}
use Rattle.za_query.specs.declared.query.Query.{Query}
use Rattle.za_query.specs.Replies.{IsFaultFor, IsRead, IsReply}

-- to what is asked of bytes one status and one text are replied
abbrev pub RepliesAreOne : Type 0
RepliesAreOne =
    (query : Query) (bytes : List ℕ) (s t : ℕ) (x y : List ℕ) → IsReply query bytes s x → IsReply query bytes t y →
    (s ≡ t) × (x ≡ y)

-- and some are
abbrev pub SomethingIsReplied : Type 0
SomethingIsReplied =
    (query : Query) (bytes : List ℕ) → (status : ℕ) × (text : List ℕ) × IsReply query bytes status text

-- the status is 4 exactly where a line is wrong
abbrev pub RepliesRefusedExactly : Type 0
RepliesRefusedExactly =
    (query : Query) (bytes : List ℕ) (status : ℕ) (text : List ℕ) → IsReply query bytes status text →
    ((status ≡ 4) ↔ ((fault : TextFault) × IsFaultFor query bytes fault))

-- the bytes say a job whose language has to be trace-closed, and has a break
abbrev pub SaysBrokenLanguage : Query → List ℕ → Type 0
SaysBrokenLanguage query bytes =
    (job : JobData) × IsRead query bytes job
    × ((k : Break) × IsBreak (loc_of job.lang.alphabet) (automaton_of (completion job.lang)) k)

-- and it is 5 exactly where that is so
abbrev pub RepliesOpenExactly : Type 0
RepliesOpenExactly =
    (query : Query) (bytes : List ℕ) (status : ℕ) (text : List ℕ) → IsReply query bytes status text →
    ((status ≡ 5) ↔ SaysBrokenLanguage query bytes)
