-- What command words ask for.
use Rattle.std.specs.Prelude.{ℕ, ◌==◌, ◌&&◌, nat_le, Bool, true, false, List, [], ◌∷◌, codes, if◌then◌else◌}
use Rattle.std.specs.Prelude.{Option, Some, None, option_map, option_and_then}
use Rattle.std.specs.List.{list_any}
use Rattle.std.specs.Str.{bytes_eq}
use Rattle.za_text.specs.Numbers.{numeral_value}
use Rattle.za_command.specs.Limits.{most_cache_rows}
use Rattle.za_command.specs.declared.plan.Plan.{Plan}
use Rattle.za_command.specs.declared.plan.Plan.TheVariants.{Solo, Run, Check, Locals, Journal, Audit}
use Rattle.za_command.specs.declared.plan.Plan.TheVariants.{Build, News, Freeze, Thaw, Gen}

-- a command word, as its bytes
abbrev pub Text : Type 0
Text = List ℕ

-- what follows the prefix in the word, where it begins so
abbrev pub after_prefix : Text → Text → Option Text
after_prefix [] word = Some word
after_prefix (p ∷ prefix) [] = None
after_prefix (p ∷ prefix) (b ∷ word) = if b == p then after_prefix prefix word else None

-- how a word stands to the cache option: it is `--cache`, it is `--cache=` and a value, or neither
pub data Spelling : Type 0 where
  alone : Spelling
  joined : Text → Spelling
  neither : Spelling

abbrev pub spelling_by : Option Text → Spelling
spelling_by None = neither
spelling_by (Some []) = alone
spelling_by (Some (b ∷ value)) = if b == 61 then joined value else neither

abbrev pub spelling : Text → Spelling
spelling word = spelling_by (after_prefix (codes "--cache") word)

abbrev pub is_neither : Spelling → Bool
is_neither neither = true
is_neither _ = false

abbrev pub begins_with_hyphen : Text → Bool
begins_with_hyphen [] = false
begins_with_hyphen (b ∷ word) = b == 45

-- the word begins with a hyphen, and doesn't spell the cache option
abbrev pub is_foreign : Text → Bool
is_foreign word = begins_with_hyphen word && is_neither (spelling word)

-- the words besides the cache option, and each value that it is given, in order
pub record Parts : Type 0 where
  pub words : List Text
  pub values : List Text

abbrev pub with_word : Text → Parts → Parts
with_word word parts = record parts { words = word ∷ parts.words }

abbrev pub with_value : Text → Parts → Parts
with_value value parts = record parts { values = value ∷ parts.values }

-- the parts of the words, of which the first is a value where the word before it was `--cache`;
-- None where a value is missing
abbrev pub parts_from : Bool → List Text → Option Parts
parts_from false [] = Some (record { words = []; values = [] })
parts_from true [] = None
parts_from true (word ∷ rest) = option_map (with_value word) (parts_from false rest)
parts_from false (word ∷ rest) = elim (spelling word) [
  | alone ↦ parts_from true rest
  | joined value ↦ option_map (with_value value) (parts_from false rest)
  | neither ↦ option_map (with_word word) (parts_from false rest)
]

-- a number of cache rows, if there are not too many
abbrev pub cache_if : ℕ → Option ℕ
cache_if rows = if nat_le rows most_cache_rows then Some rows else None

abbrev pub cache_of : Text → Option ℕ
cache_of word = option_and_then cache_if (numeral_value word)

-- a command that takes the cache option, with so many rows
abbrev pub plan_with : Text → ℕ → Option Plan
plan_with name rows =
    if bytes_eq name (codes "solo") then Some (Solo rows)
    else (if bytes_eq name (codes "run") then Some (Run rows)
    else (if bytes_eq name (codes "check") then Some (Check rows)
    else (if bytes_eq name (codes "locals") then Some (Locals rows)
    else (if bytes_eq name (codes "journal") then Some (Journal rows) else None))))

-- one word without the option: without it there are no cache rows
abbrev pub plan_of_word : Text → Option Plan
plan_of_word name =
    if bytes_eq name (codes "audit") then Some Audit
    else (if bytes_eq name (codes "build") then Some Build
    else (if bytes_eq name (codes "news") then Some News
    else (if bytes_eq name (codes "thaw") then Some Thaw else plan_with name 0)))

-- a command that takes a number
abbrev pub plan_with_number : Text → ℕ → Option Plan
plan_with_number name n =
    if bytes_eq name (codes "gen") then Some (Gen n)
    else (if bytes_eq name (codes "freeze") then Some (Freeze n) else None)

abbrev pub plan_of_pair : Text → Text → Option Plan
plan_of_pair name word = option_and_then (plan_with_number name) (numeral_value word)

abbrev pub plan_of_lists : List Text → List Text → Option Plan
plan_of_lists (name ∷ []) [] = plan_of_word name
plan_of_lists (name ∷ []) (value ∷ []) = option_and_then (plan_with name) (cache_of value)
plan_of_lists (name ∷ word ∷ []) [] = plan_of_pair name word
plan_of_lists _ _ = None

abbrev pub plan_of_parts : Option Parts → Option Plan
plan_of_parts None = None
plan_of_parts (Some parts) = plan_of_lists parts.words parts.values

-- what the command words ask for, and None where they are in no form
abbrev pub plan_of : List Text → Option Plan
plan_of words = if list_any is_foreign words then None else plan_of_parts (parts_from false words)
