-- What the reader keeps of the lines so far.
use Rattle.std.specs.Prelude.{◌≡◌, ℕ, Bool, true, false, List, [], replicate, Option, Some}
use Rattle.za_text.specs.declared.kind.Kind.{Kind}
use Rattle.za_text.specs.declared.kind.Kind.TheVariants as kind
use Rattle.za_alpha.specs.Alphabet.{DistributedAlphabet}
use Rattle.za_dfa.specs.Tables.{CompleteDfa}
use Rattle.za_dfa.specs.Partials.{whole_of}
use Rattle.za_form.specs.declared.fault.FormFault.{FormFault}
use Rattle.za_form.specs.declared.fault.FormFault.TheVariants as form_fault
use Rattle.za_form.specs.declared.fault.Wide.{Wide}
use Rattle.za_form.specs.declared.fault.Wide.TheVariants as wide
use Rattle.za_form.specs.Expressions.{IsExpressionOf}
use Rattle.za_form.specs.Automata.{IsValueDfa}
use Rattle.za_expression.specs.declared.sign.Sign.{Sign}
use Rattle.za_lang.specs.declared.fault.Refusal.{Refusal}
use Rattle.za_lang.specs.declared.fault.Refusal.TheVariants as refusal
use Rattle.za_lang.specs.declared.order.Head.{Head}
use Rattle.za_lang.specs.declared.order.Head.TheVariants.{States}
use Rattle.za_lang.specs.declared.order.Place.{Place}
use Rattle.za_lang.specs.declared.order.Place.TheVariants.{AtHeader, AtLetters, AtScripts, AfterEnd}
use Rattle.za_lang.specs.declared.reading.Reading.{Reading}
use Rattle.za_lang.specs.declared.reading.Reading.TheVariants as reading
use Rattle.za_lang.specs.declared.version.Version.TheVariants.{Two}
use Rattle.za_lang.specs.Answers.{data_of}
use Rattle.za_lang.specs.Jobs.{JobData}
use Rattle.za_lang.specs.Namings.{Naming}
use Rattle.za_lang.specs.Documents.{Said, lang_said}
use Rattle.za_lang.specs.Gathering.{more, Tells}
use Rattle.za_lang.specs.Reading.{Keeps}
use Rattle.za_expr.specs.Documents.{next_place_with}
use Rattle.za_expr.specs.Built.{alphabet_said}

-- the refusal of each fault of an expression, and of a table that is too wide
abbrev pub form_refusal : FormFault → Refusal
form_refusal form_fault.Full = refusal.Wrong kind.ExprFull
form_refusal form_fault.NoSuchLetter = refusal.Wrong kind.NoSuchLetter
form_refusal form_fault.NotAForm = refusal.Wrong kind.BadExpr
form_refusal form_fault.OutOfMemory = refusal.OutOfMemory

abbrev pub wide_refusal : Wide → Refusal
wide_refusal wide.States = refusal.Wrong kind.ExprStates
wide_refusal wide.OutOfMemory = refusal.OutOfMemory

-- the refusal has such a fault, unless memory was refused
abbrev pub IsWrongBy : (Option Kind → Type 0) → Refusal → Type 0
IsWrongBy has (refusal.Wrong kind) = has (Some kind)
IsWrongBy has refusal.OutOfMemory = Unit {0}

-- the table of the expression of these tokens
pub record IsExpressionTable (alphabet : DistributedAlphabet) (tokens : List (List ℕ)) (dfa : CompleteDfa)
    : Type 0 where
  pub signs : List Sign
  pub expression : IsExpressionOf alphabet.letters tokens signs
  pub values : IsValueDfa alphabet signs dfa

-- the job that has this table and no script letters
pub record IsBegunJob (naming : Naming) (alphabet : DistributedAlphabet) (tokens : List (List ℕ)) (job : JobData)
    : Type 0 where
  pub some : ¬ (tokens ≡ [])
  pub dfa : CompleteDfa
  pub table : IsExpressionTable alphabet tokens dfa
  pub is : job ≡ record { naming = naming; lang = whole_of dfa; scripts = replicate alphabet.processes [] }

-- what lines and one more say
abbrev pub more_with : Said → List (List ℕ) → Said
more_with s words = record (more s words) { place = next_place_with s.place words }

-- the line gives the states of a table
abbrev pub begins_table : Place → Head → Bool
begins_table AtLetters States = true
begins_table _ _ = false

-- whether the place is after the `expr` line
abbrev pub is_after : Place → Bool
is_after AtScripts = true
is_after AfterEnd = true
is_after _ = false

-- the job has what the lines say, and the table of the expression of these tokens
pub record IsGoing (place : Place) (job : JobData) (s : Said) (tokens : List (List ℕ)) : Type 0 where
  pub at : place ≡ s.place
  pub after : is_after place ≡ true
  pub told : Said
  pub tells : Tells job told
  pub told_at : place ≡ told.place
  pub naming : told.naming ≡ s.naming
  pub letters : told.letters ≡ s.letters
  pub steps : told.steps ≡ s.steps
  pub signs : List Sign
  pub expression : IsExpressionOf s.letters tokens signs
  pub dfa : CompleteDfa
  pub values : IsValueDfa (alphabet_said s) signs dfa
  pub lang : lang_said told ≡ whole_of dfa

-- the reading has what the lines up to the `expr` line say
pub record IsEarly (read : Reading) (s : Said) (tokens : List (List ℕ)) : Type 0 where
  pub keeps : Keeps read s
  pub version : s.naming.version ≡ Two
  pub none : tokens ≡ []

-- the reading has what the lines say
abbrev pub KeepsWith : Reading → Said → List (List ℕ) → Type 0
KeepsWith (reading.Body place job) s tokens = IsGoing place (data_of job) s tokens
KeepsWith read s tokens = IsEarly read s tokens

-- whether the header is awaited
abbrev pub is_header_place : Place → Bool
is_header_place AtHeader = true
is_header_place _ = false
