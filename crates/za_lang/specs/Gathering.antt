-- What lines and one line more say, and the job that has it.
use Rattle.std.specs.Prelude.{◌≡◌, ℕ, ◌+◌, ◌<◌, ◌++◌, Bool, true, false, List, [], ◌∷◌, All}
use Rattle.std.specs.Prelude.{length, fold, slice_set, Option, Some, None, Result, MatchResult}
use Rattle.za_text.specs.declared.kind.Kind.{Kind}
use Rattle.za_alpha.specs.Alphabet.{DistributedAlphabet}
use Rattle.za_dfa.specs.Entered.{AreEntered}
use Rattle.za_script.specs.ScriptLists.{script_of, total_of, AreScripts, IsLetterOf}
use Rattle.za_lang.specs.declared.order.Head.{Head}
use Rattle.za_lang.specs.declared.order.Head.TheVariants as head
use Rattle.za_lang.specs.declared.fault.Refusal.{Refusal}
use Rattle.za_lang.specs.declared.fault.Refusal.TheVariants as refusal
use Rattle.za_lang.specs.Jobs.{JobData}
use Rattle.za_lang.specs.Order.{head_of, next_place}
use Rattle.za_lang.specs.Documents.{Said, names_said, letters_said, states_said, start_said, accepts_said}
use Rattle.za_lang.specs.Documents.{rows_said, steps_said, acceptance_of, script_of_steps, own_fault}

-- the line is refused so, unless memory was refused
abbrev pub IsWrong : Option Kind → Refusal → Type 0
IsWrong fault (refusal.Wrong kind) = fault ≡ Some kind
IsWrong fault refusal.OutOfMemory = Unit {0}

-- what lines and one more say
abbrev pub more_said : Said → Head → List (List ℕ) → Said
more_said s head words = record {
  place = next_place s.place head;
  naming = record s.naming { names = names_said s.naming.version s.naming.names head words };
  letters = s.letters ++ letters_said s.naming head words;
  states = states_said s.states head words;
  start = start_said s.start head words;
  accepts = s.accepts ++ accepts_said head words;
  rows = s.rows ++ rows_said s.letters head words;
  steps = s.steps ++ steps_said s.naming s.letters head words;
}

abbrev pub more : Said → List (List ℕ) → Said
more s [] = s
more s (word ∷ words) = more_said s (head_of word) words

-- the states that accept, and these too
abbrev pub marked : List Bool → List ℕ → List Bool
marked accepting states = fold (λ bs q. slice_set bs q true) accepting states

-- the script of p has these letters more
pub record AreAdded (alphabet : DistributedAlphabet) (old new : List (List ℕ)) (p : ℕ) (letters : List ℕ) : Type 0 where
  pub scripts : new ≡ slice_set old p (script_of old p ++ letters)
  pub total : total_of new ≡ total_of old + length letters
  pub own : All (IsLetterOf alphabet p) letters
  pub limits : AreScripts new

-- the job has what the lines say
pub record Tells (job : JobData) (s : Said) : Type 0 where
  pub naming : job.naming ≡ s.naming
  pub processes : job.lang.alphabet.processes ≡ length s.naming.names
  pub letters : job.lang.alphabet.letters ≡ s.letters
  pub states : job.lang.states ≡ s.states
  pub start : job.lang.start ≡ s.start
  pub accepting : job.lang.accepting ≡ acceptance_of s.states s.accepts
  pub rows : AreEntered job.lang s.rows
  pub steps : (p : ℕ) → p < length s.naming.names → script_of job.scripts p ≡ script_of_steps s.steps p
  pub total : total_of job.scripts ≡ length s.steps

-- a line with this first word and these words after it is tested, and then the job has what it says
abbrev pub IsTaken : Head → List (List ℕ) → JobData → JobData → {X : Type 0} → Result X Refusal → Type 0
IsTaken head words old new result =
    (s : Said) → Tells old s →
    MatchResult result
    (λ _. (own_fault s head words ≡ None) × Tells new (more_said s head words))
    (IsWrong (own_fault s head words))

-- whether a line with this first word stands after the states line
abbrev pub is_late_head : Head → Bool
is_late_head head.Start = true
is_late_head head.Accept = true
is_late_head head.Row = true
is_late_head head.Script = true
is_late_head head.End = true
is_late_head _ = false
