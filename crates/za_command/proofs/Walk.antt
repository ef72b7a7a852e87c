-- What clap makes of one word.
use Rattle.std.proofs.Common.{◌≡◌, ℕ, Bool, true, false, ◌&&◌, List, [], ◌∷◌, ◌++◌, Some, None, codes, refl}
use Rattle.clap.specs.Walk.{Held, Rule, Text, Waiting, Walk, idle, option, settled, reacted, walked}
use Rattle.clap.specs.Simple.{Shape, built, filled, new_rule}
use Rattle.clap.specs.declared.error.kind.ErrorKind.TheVariants as kind
use Rattle.clap.specs.Kinds.{or_else}
use Rattle.clap.specs.Faults.{settle_fault, turn_fault, react_fault}
use Rattle.za_command.specs.Private.Command.{command_app}
use Rattle.za_command.specs.Plans.{begins_with_hyphen}

abbrev pub top : Shape
top = (built command_app).top

abbrev pub rules : List Rule
rules = top.rules

abbrev pub cache_rule : Rule
cache_rule = filled (record (new_rule (codes "cache")) { long = Some (codes "cache") })

abbrev pub walk_at : Held → Waiting → ℕ → Walk
walk_at h waiting position = record { held = h; waiting = waiting; position = position; is_trailing = false; stopped = None }

-- the value is pending, after what was before it
abbrev pub with_pending : Text → List Text → Held → Held
with_pending id values h = record (settled rules h) { pending = Some (id, values) }

and_false : (b : Bool) → (b && false) ≡ false
and_false true = refl
and_false false = refl

-- a word that goes to a positional, of an idle walk
pub first_word : (word : Text) (h : Held) → begins_with_hyphen word ≡ false
    → (walked rules [] (walk_at h idle 1) word ≡ walk_at (with_pending (codes "command") (word ∷ []) h) idle 2)
    × (turn_fault top [] (walk_at h idle 1) word ≡ settle_fault rules false h)
unfolding walked
first_word [] h plain = (simp and_false, simp and_false)
first_word (b ∷ bs) h plain = (simp (plain, and_false), simp (plain, and_false))

pub second_word : (word : Text) (h : Held) → begins_with_hyphen word ≡ false
    → (walked rules [] (walk_at h idle 2) word ≡ walk_at (with_pending (codes "number") (word ∷ []) h) idle 3)
    × (turn_fault top [] (walk_at h idle 2) word ≡ settle_fault rules false h)
unfolding walked
second_word [] h plain = (simp and_false, simp and_false)
second_word (b ∷ bs) h plain = (simp (plain, and_false), simp (plain, and_false))

pub third_word : (word : Text) (h : Held) → begins_with_hyphen word ≡ false
    → turn_fault top [] (walk_at h idle 3) word ≡ kind.UnknownArgument ∷ []
third_word [] h plain = refl
third_word (b ∷ bs) h plain = simp plain

-- the option alone, and the word after it
pub option_alone : (h : Held) (position : ℕ)
    → (walked rules [] (walk_at h idle position) (codes "--cache") ≡ walk_at (with_pending (codes "cache") [] h) (option (codes "cache")) position)
    × (turn_fault top [] (walk_at h idle position) (codes "--cache") ≡ or_else (settle_fault rules false h) [])
unfolding walked
option_alone h position = (refl, refl)

pub option_value : (word : Text) (h : Held) (position : ℕ) → begins_with_hyphen word ≡ false
    → (walked rules [] (walk_at (with_pending (codes "cache") [] h) (option (codes "cache")) position) word
    ≡ walk_at (with_pending (codes "cache") (word ∷ []) h) idle position)
    × (turn_fault top [] (walk_at (with_pending (codes "cache") [] h) (option (codes "cache")) position) word ≡ [])
unfolding walked
option_value [] h position plain = (refl, refl)
option_value (b ∷ bs) h position plain = (simp plain, simp plain)

-- the option with its value in one word
pub option_joined : (value : Text) (h : Held) (position : ℕ)
    → (walked rules [] (walk_at h idle position) (codes "--cache=" ++ value) ≡ walk_at (reacted rules cache_rule (value ∷ []) h) idle position)
    × (turn_fault top [] (walk_at h idle position) (codes "--cache=" ++ value) ≡ or_else (react_fault rules false cache_rule (value ∷ []) h) [])
unfolding walked
option_joined value h position = (refl, refl)

-- an option where a value is missing
pub alone_for_value : (h : Held) (position : ℕ)
    → turn_fault top [] (walk_at (with_pending (codes "cache") [] h) (option (codes "cache")) position) (codes "--cache") ≡ kind.InvalidValue ∷ []
alone_for_value h position = refl

pub joined_for_value : (value : Text) (h : Held) (position : ℕ)
    → turn_fault top [] (walk_at (with_pending (codes "cache") [] h) (option (codes "cache")) position) (codes "--cache=" ++ value) ≡ kind.InvalidValue ∷ []
joined_for_value value h position = refl

pub value_missing : (h : Held) → settle_fault rules false (with_pending (codes "cache") [] h) ≡ kind.InvalidValue ∷ []
value_missing h = refl
