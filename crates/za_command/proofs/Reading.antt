-- Clap takes words that are not foreign exactly as the definition does.
use Rattle.std.proofs.Common.{◌≡◌, ◌∙◌, ℕ, Bool, true, false, ◌||◌, List, [], ◌∷◌, ◌++◌, Option, Some, None, codes, refl, sym, ap, subst, inl, inr, option_map}
use Rattle.std.proofs.Common.{true≢false}
use Rattle.std.specs.List.{fold, list_any}
use Rattle.std.specs.Prelude.{slice_get, if◌then◌else◌}
use Rattle.clap.specs.Walk.{Held, Row, Text, Walk, idle, option, settled, reacted, walked, finished, first_of, nothing_held}
use Rattle.clap.specs.Kinds.{HasKind, Kinds, or_else}
use Rattle.clap.specs.Values.{kind_of}
use Rattle.clap.specs.declared.error.Error.{Error}
use Rattle.clap.specs.declared.error.kind.ErrorKind.{ErrorKind}
use Rattle.clap.specs.declared.error.kind.ErrorKind.TheVariants as kind
use Rattle.clap.specs.declared.builder.value_parser.Reading.TheVariants as reading
use Rattle.clap.specs.Faults.{check_fault, defaults_fault, fault_of, settle_fault, turn_fault, use_fault, walk_fault, react_fault}
use Rattle.clap.proofs.FaultLemmas.{leaf_fault}
use Rattle.clap.specs.Simple.{built}
use Rattle.za_command.specs.Private.Command.{Texts, command_app, plan_of_texts, texts_in}
use Rattle.za_command.specs.Plans.{Parts, begins_with_hyphen, is_foreign, parts_from, plan_of, plan_of_lists, plan_of_parts, cache_of, with_value, with_word}
use Rattle.za_command.specs.declared.plan.Plan.{Plan}
use Rattle.za_command.proofs.Walk.{top, rules, cache_rule, walk_at, with_pending, first_word, second_word, third_word, option_alone, option_value}
use Rattle.za_command.proofs.Walk.{option_joined, alone_for_value, joined_for_value, value_missing}
use Rattle.za_command.proofs.Rows.{HasFirst, after_use, after_other, use_adds}
use Rattle.za_command.proofs.Spellings.{IsSpelling, spelled, parts_plain, two_values, three_words, bad_value, option_is_no_number}

or_nil : (ks : Kinds) → or_else ks [] ≡ ks
or_nil [] = refl
or_nil (k ∷ ks) = refl

if_same : {X : Type 0} (b : Bool) (x : X) → (if b then x else x) ≡ x
if_same true x = refl
if_same false x = refl

-- ---- what a walk comes to

abbrev end_fault : Held → Kinds
end_fault h = or_else (settle_fault rules false h)
    (or_else (defaults_fault (settled rules h).rows rules) (check_fault top (finished rules h) false))

end_is : (h : Held) → end_fault h ≡ settle_fault rules false h
unfolding defaults_fault
end_is h = simp (if_same, or_nil)

finished_is : (h : Held) → finished rules h ≡ (settled rules h).rows
finished_is h = simp if_same

abbrev rest_fault : Walk → List Text → Kinds
rest_fault w words = or_else (walk_fault top [] w words) (end_fault (fold (walked rules []) w words).held)

abbrev texts_by : List Row → Texts
texts_by rows = record { command = first_of (codes "command") rows; number = first_of (codes "number") rows; cache = first_of (codes "cache") rows }

abbrev pub outcome : Kinds → Texts → Option Plan
outcome [] texts = plan_of_texts texts
outcome (k ∷ ks) texts = None

-- from here on the walk over the words comes to this plan
abbrev ComesTo : Walk → List Text → Option Plan → Type 0
ComesTo w words plan = outcome (rest_fault w words) (texts_by (finished rules (fold (walked rules []) w words).held)) ≡ plan

step_passes : (w after : Walk) (word : Text) (rest : List Text) (plan : Option Plan) → walked rules [] w word ≡ after → turn_fault top [] w word ≡ []
    → ComesTo after rest plan → ComesTo w (word ∷ rest) plan
unfolding walk_fault
step_passes w after word rest plan is passes next =
    let from = walked rules [] w word in
    let end = fold (walked rules []) from rest in
    subst (λ (fs : Kinds). outcome (or_else (or_else fs (walk_fault top [] from rest)) (end_fault end.held)) (texts_by (finished rules end.held)) ≡ plan)
    (sym passes) (subst (λ (a : Walk). ComesTo a rest plan) (sym is) next)

step_fails : (w : Walk) (word : Text) (rest : List Text) (k : ErrorKind) (ks : Kinds) → turn_fault top [] w word ≡ k ∷ ks → ComesTo w (word ∷ rest) None
unfolding walk_fault
step_fails w word rest k ks fails = rw fails refl

end_fails : (w : Walk) (k : ErrorKind) (ks : Kinds) → settle_fault rules false w.held ≡ k ∷ ks → ComesTo w [] None
unfolding walk_fault
end_fails w k ks fails = rw (end_is w.held, fails) refl

-- ---- what has been read

-- the words besides the option, and the option's value
data Words : Type 0 where
  none : Words
  one : Text → Words
  two : Text → Text → Words

data Value : Type 0 where
  no : Value
  value : Text → Value

abbrev words_of : Words → List Text
words_of none = []
words_of (one a) = a ∷ []
words_of (two a b) = a ∷ b ∷ []

abbrev values_of : Value → List Text
values_of no = []
values_of (value v) = v ∷ []

abbrev position_of : Words → ℕ
position_of none = 1
position_of (one a) = 2
position_of (two a b) = 3

-- what is held has these words and this value, once what is pending is settled
record Holds (ws : Words) (v : Value) (h : Held) : Type 0 where
  pub command : HasFirst (codes "command") (slice_get (words_of ws) 0) (settled rules h).rows
  pub number : HasFirst (codes "number") (slice_get (words_of ws) 1) (settled rules h).rows
  pub cache : HasFirst (codes "cache") (slice_get (values_of v) 0) (settled rules h).rows
  pub clean : settle_fault rules false h ≡ []

-- the walk between two words: idle, or waiting for the option's value
abbrev place : Bool → Held → ℕ → Walk
place false h position = walk_at h idle position
place true h position = walk_at (with_pending (codes "cache") [] h) (option (codes "cache")) position

-- the plan of what has been read and of what is left
abbrev plan_after : Words → Value → Option Parts → Option Plan
plan_after ws v None = None
plan_after ws v (Some parts) = plan_of_lists (words_of ws ++ parts.words) (values_of v ++ parts.values)

-- ---- one more word or value is held

took_command : (w : Text) (v : Value) (h : Held) → Holds none v h → Holds (one w) v (with_pending (codes "command") (w ∷ []) h)
took_command w v h holds =
    let rows = (settled rules h).rows in
    let adds = use_adds (codes "command") w reading.AsWritten rows holds.command.has in
    record {
      command = subst (HasFirst (codes "command") (Some w)) (sym adds) (after_use (codes "command") w reading.AsWritten rows refl holds.command);
      number = subst (HasFirst (codes "number") None) (sym adds)
          (after_other (codes "number") (codes "command") w None reading.AsWritten rows refl holds.number);
      cache = subst (HasFirst (codes "cache") (slice_get (values_of v) 0)) (sym adds)
          (after_other (codes "cache") (codes "command") w _ reading.AsWritten rows refl holds.cache);
      clean = rw holds.command.has refl;
    }

took_number : (a w : Text) (v : Value) (h : Held) → Holds (one a) v h → Holds (two a w) v (with_pending (codes "number") (w ∷ []) h)
took_number a w v h holds =
    let rows = (settled rules h).rows in
    let adds = use_adds (codes "number") w reading.AsWritten rows holds.number.has in
    record {
      command = subst (HasFirst (codes "command") (Some a)) (sym adds)
          (after_other (codes "command") (codes "number") w _ reading.AsWritten rows refl holds.command);
      number = subst (HasFirst (codes "number") (Some w)) (sym adds) (after_use (codes "number") w reading.AsWritten rows refl holds.number);
      cache = subst (HasFirst (codes "cache") (slice_get (values_of v) 0)) (sym adds)
          (after_other (codes "cache") (codes "number") w _ reading.AsWritten rows refl holds.cache);
      clean = rw holds.number.has refl;
    }

took_value : (ws : Words) (w : Text) (h : Held) → Holds ws no h → Holds ws (value w) (with_pending (codes "cache") (w ∷ []) h)
took_value ws w h holds =
    let rows = (settled rules h).rows in
    let adds = use_adds (codes "cache") w reading.AsWritten rows holds.cache.has in
    record {
      command = subst (HasFirst (codes "command") (slice_get (words_of ws) 0)) (sym adds)
          (after_other (codes "command") (codes "cache") w _ reading.AsWritten rows refl holds.command);
      number = subst (HasFirst (codes "number") (slice_get (words_of ws) 1)) (sym adds)
          (after_other (codes "number") (codes "cache") w _ reading.AsWritten rows refl holds.number);
      cache = subst (HasFirst (codes "cache") (Some w)) (sym adds) (after_use (codes "cache") w reading.AsWritten rows refl holds.cache);
      clean = rw holds.cache.has refl;
    }

took_joined : (ws : Words) (w : Text) (h : Held) → Holds ws no h → Holds ws (value w) (reacted rules cache_rule (w ∷ []) h)
took_joined ws w h holds =
    let once = took_value ws w h holds in
    record { command = once.command; number = once.number; cache = once.cache; clean = refl }

-- a second value
second_value : (ws : Words) (u w : Text) (h : Held) → Holds ws (value u) h →
    settle_fault rules false (with_pending (codes "cache") (w ∷ []) h) ≡ kind.ArgumentConflict ∷ []
second_value ws u w h holds = rw holds.cache.has refl

second_joined : (ws : Words) (u w : Text) (h : Held) → Holds ws (value u) h →
    or_else (react_fault rules false cache_rule (w ∷ []) h) [] ≡ kind.ArgumentConflict ∷ []
second_joined ws u w h holds = rw (holds.clean, holds.cache.has) refl

first_joined : (ws : Words) (w : Text) (h : Held) → Holds ws no h → or_else (react_fault rules false cache_rule (w ∷ []) h) [] ≡ []
first_joined ws w h holds = rw (holds.clean, holds.cache.has) refl

-- ---- the walk over the words

or_false : (a b : Bool) → (a || b) ≡ false → (a ≡ false) × (b ≡ false)
or_false true b e = absurd (true≢false e)
or_false false b e = (refl, e)

abbrev NoneForeign : List Text → Type 0
NoneForeign words = list_any is_foreign words ≡ false

-- a word of its own is a fault where what is pending is one, or where it is the third
word_fails : (w : Text) (rest : List Text) (ws : Words) (h : Held) (k : ErrorKind) (ks : Kinds) → begins_with_hyphen w ≡ false
    → settle_fault rules false h ≡ k ∷ ks → ComesTo (walk_at h idle (position_of ws)) (w ∷ rest) None
word_fails w rest none h k ks plain fails = step_fails _ w rest k ks ((first_word w h plain).1 ∙ fails)
word_fails w rest (one a) h k ks plain fails = step_fails _ w rest k ks ((second_word w h plain).1 ∙ fails)
word_fails w rest (two a b) h k ks plain fails = step_fails _ w rest kind.UnknownArgument [] (third_word w h plain)

option_fails : (w : Text) (rest : List Text) (position : ℕ) (h : Held) (k : ErrorKind) (ks : Kinds) → IsSpelling w
    → settle_fault rules false h ≡ k ∷ ks → ComesTo (walk_at h idle position) (w ∷ rest) None
option_fails w rest position h k ks (inl is) fails = step_fails _ w rest k ks
    (ap (turn_fault top [] (walk_at h idle position)) is ∙ (option_alone h position).1 ∙ ap (λ fs. or_else fs []) fails)
option_fails w rest position h k ks (inr is) fails = step_fails _ w rest k ks
    (ap (turn_fault top [] (walk_at h idle position)) is.1 ∙ (option_joined is.0 h position).1
    ∙ ap (λ fs. or_else (or_else fs (use_fault false cache_rule (is.0 ∷ []) (settled rules h).rows)) []) fails)

-- what is pending is a fault, and so is the walk
pending_fails : (words : List Text) (ws : Words) (h : Held) (k : ErrorKind) (ks : Kinds) → NoneForeign words
    → settle_fault rules false h ≡ k ∷ ks → ComesTo (walk_at h idle (position_of ws)) words None
pending_fails [] ws h k ks known fails = end_fails (walk_at h idle (position_of ws)) k ks fails
pending_fails (w ∷ rest) ws h k ks known fails = elim (spelled w (or_false _ _ known).0) [
  | inl is ↦ option_fails w rest (position_of ws) h k ks is fails
  | inr plain ↦ word_fails w rest ws h k ks plain fails
]

-- no word is left
ends : (ws : Words) (v : Value) (h : Held) → Holds ws v h → ComesTo (walk_at h idle (position_of ws)) [] (plan_after ws v (parts_from false []))
unfolding walk_fault
ends ws v h holds =
    rw (end_is h, holds.clean, finished_is h, holds.command.first, holds.number.first, holds.cache.first) (both ws v)
  where
    both : (ws : Words) (v : Value) →
        plan_of_texts (record { command = slice_get (words_of ws) 0; number = slice_get (words_of ws) 1; cache = slice_get (values_of v) 0 })
        ≡ plan_of_lists (words_of ws ++ []) (values_of v ++ [])
    both none no = refl
    both none (value v) = refl
    both (one a) no = refl
    both (one a) (value v) = refl
    both (two a b) no = refl
    both (two a b) (value v) = refl

-- ---- the plans of one more word or value

more_values : (ws : Words) (u w : Text) (o : Option Parts) → plan_after ws (value u) (option_map (with_value w) o) ≡ None
more_values ws u w None = refl
more_values ws u w (Some parts) = two_values (words_of ws ++ parts.words) u w parts.values

no_number : (ws : Words) (v : Value) (w : Text) (o : Option Parts) → cache_of w ≡ None → plan_after ws v (option_map (with_value w) o) ≡ None
no_number ws v w None bad = refl
no_number ws no w (Some parts) bad = bad_value (words_of ws ++ parts.words) w parts.values bad
no_number ws (value u) w (Some parts) bad = two_values (words_of ws ++ parts.words) u w parts.values

one_value : (ws : Words) (w : Text) (o : Option Parts) → plan_after ws (value w) o ≡ plan_after ws no (option_map (with_value w) o)
one_value ws w None = refl
one_value ws w (Some parts) = refl

command_word : (w : Text) (v : Value) (o : Option Parts) → plan_after (one w) v o ≡ plan_after none v (option_map (with_word w) o)
command_word w v None = refl
command_word w v (Some parts) = refl

number_word : (a w : Text) (v : Value) (o : Option Parts) → plan_after (two a w) v o ≡ plan_after (one a) v (option_map (with_word w) o)
number_word a w v None = refl
number_word a w v (Some parts) = refl

more_words : (a b w : Text) (v : Value) (o : Option Parts) → plan_after (two a b) v (option_map (with_word w) o) ≡ None
more_words a b w v None = refl
more_words a b w v (Some parts) = three_words a b w parts.words (values_of v ++ parts.values)

-- ---- the walk comes to the plan of the definition

-- what the words that are left come to, wherever the walk stands
abbrev Reads : List Text → Type 0
Reads rest = (waits : Bool) (ws : Words) (v : Value) (h : Held) → Holds ws v h →
    ComesTo (place waits h (position_of ws)) rest (plan_after ws v (parts_from waits rest))

abbrev ReadsWord : Bool → Text → List Text → Type 0
ReadsWord waits w rest = (ws : Words) (v : Value) (h : Held) → Holds ws v h →
    ComesTo (place waits h (position_of ws)) (w ∷ rest) (plan_after ws v (parts_from waits (w ∷ rest)))

as_plan : (w : Walk) (words : List Text) (p q : Option Plan) → p ≡ q → ComesTo w words p → ComesTo w words q
as_plan w words p q e c = c ∙ e

reads_word : (w : Text) (rest : List Text) → begins_with_hyphen w ≡ false → Reads rest → ReadsWord false w rest
reads_word w rest plain next none v h holds =
    step_passes _ _ w rest _ (first_word w h plain).0 ((first_word w h plain).1 ∙ holds.clean)
    (as_plan _ rest _ _ (command_word w v (parts_from false rest) ∙ ap (plan_after none v) (sym (parts_plain w rest plain)))
    (next false (one w) v _ (took_command w v h holds)))
reads_word w rest plain next (one a) v h holds =
    step_passes _ _ w rest _ (second_word w h plain).0 ((second_word w h plain).1 ∙ holds.clean)
    (as_plan _ rest _ _ (number_word a w v (parts_from false rest) ∙ ap (plan_after (one a) v) (sym (parts_plain w rest plain)))
    (next false (two a w) v _ (took_number a w v h holds)))
reads_word w rest plain next (two a b) v h holds =
    as_plan _ (w ∷ rest) _ _ (sym (ap (plan_after (two a b) v) (parts_plain w rest plain) ∙ more_words a b w v (parts_from false rest)))
    (step_fails _ w rest kind.UnknownArgument [] (third_word w h plain))

reads_alone : (rest : List Text) → Reads rest → ReadsWord false (codes "--cache") rest
reads_alone rest next ws v h holds =
    step_passes _ _ (codes "--cache") rest _ (option_alone h (position_of ws)).0 ((option_alone h (position_of ws)).1 ∙ or_nil (settle_fault rules false h)
    ∙ holds.clean)
    (next true ws v h holds)

reads_joined : (u : Text) (rest : List Text) → Reads rest → ReadsWord false (codes "--cache=" ++ u) rest
reads_joined u rest next ws no h holds =
    step_passes _ _ (codes "--cache=" ++ u) rest _ (option_joined u h (position_of ws)).0 ((option_joined u h (position_of ws)).1 ∙ first_joined ws u h holds)
    (as_plan _ rest _ _ (one_value ws u (parts_from false rest)) (next false ws (value u) _ (took_joined ws u h holds)))
reads_joined u rest next ws (value v) h holds =
    as_plan _ ((codes "--cache=" ++ u) ∷ rest) _ _ (sym (more_values ws v u (parts_from false rest)))
    (step_fails _ (codes "--cache=" ++ u) rest kind.ArgumentConflict [] ((option_joined u h (position_of ws)).1 ∙ second_joined ws v u h holds))

reads_value : (w : Text) (rest : List Text) → begins_with_hyphen w ≡ false → NoneForeign rest → Reads rest → ReadsWord true w rest
reads_value w rest plain known next ws no h holds =
    step_passes _ _ w rest _ (option_value w h (position_of ws) plain).0 (option_value w h (position_of ws) plain).1
    (as_plan _ rest _ _ (one_value ws w (parts_from false rest)) (next false ws (value w) _ (took_value ws w h holds)))
reads_value w rest plain known next ws (value v) h holds =
    step_passes _ _ w rest _ (option_value w h (position_of ws) plain).0 (option_value w h (position_of ws) plain).1
    (as_plan _ rest _ _ (sym (more_values ws v w (parts_from false rest)))
    (pending_fails rest ws (with_pending (codes "cache") (w ∷ []) h) kind.ArgumentConflict [] known (second_value ws v w h holds)))

reads_option_value : (w : Text) (rest : List Text) → IsSpelling w → ReadsWord true w rest
reads_option_value w rest (inl is) = subst (λ (x : Text). ReadsWord true x rest) (sym is) (λ ws v h holds.
    as_plan _ (codes "--cache" ∷ rest) _ _ (sym (no_number ws v (codes "--cache") (parts_from false rest) (option_is_no_number (codes "cache"))))
    (step_fails _ (codes "--cache") rest kind.InvalidValue [] (alone_for_value h (position_of ws))))
reads_option_value w rest (inr is) = subst (λ (x : Text). ReadsWord true x rest) (sym is.1) (λ ws v h holds.
    as_plan _ ((codes "--cache=" ++ is.0) ∷ rest) _ _
    (sym (no_number ws v (codes "--cache=" ++ is.0) (parts_from false rest) (option_is_no_number (codes "cache=" ++ is.0))))
    (step_fails _ (codes "--cache=" ++ is.0) rest kind.InvalidValue [] (joined_for_value is.0 h (position_of ws))))

reads_idle : (w : Text) (rest : List Text) → is_foreign w ≡ false → Reads rest → ReadsWord false w rest
reads_idle w rest known next = elim (spelled w known) [
  | inr plain ↦ reads_word w rest plain next
  | inl is ↦ elim is [
    | inl e ↦ subst (λ (x : Text). ReadsWord false x rest) (sym e) (reads_alone rest next)
    | inr e ↦ subst (λ (x : Text). ReadsWord false x rest) (sym e.1) (reads_joined e.0 rest next)
  ]
]

reads_waiting : (w : Text) (rest : List Text) → is_foreign w ≡ false → NoneForeign rest → Reads rest → ReadsWord true w rest
reads_waiting w rest known others next = elim (spelled w known) [
  | inr plain ↦ reads_value w rest plain others next
  | inl is ↦ reads_option_value w rest is
]

reads : (words : List Text) → NoneForeign words → Reads words
reads [] known false ws v h holds = ends ws v h holds
reads [] known true ws v h holds = end_fails (place true h (position_of ws)) kind.InvalidValue [] (value_missing h)
reads (w ∷ rest) known false ws v h holds =
    let parts = or_false (is_foreign w) (list_any is_foreign rest) known in
    reads_idle w rest parts.0 (reads rest parts.1) ws v h holds
reads (w ∷ rest) known true ws v h holds =
    let parts = or_false (is_foreign w) (list_any is_foreign rest) known in
    reads_waiting w rest parts.0 parts.1 (reads rest parts.1) ws v h holds

-- clap takes words that are not foreign exactly where they are in a form, and finds what is asked for
pub clap_reads : (words : List Text) → NoneForeign words → outcome (fault_of command_app words) (texts_in words) ≡ plan_of words
clap_reads words known =
    let start : Holds none no nothing_held = record {
      command = record { first = refl; has = refl };
      number = record { first = refl; has = refl };
      cache = record { first = refl; has = refl };
      clean = refl;
    } in
    ap (λ ks. outcome ks (texts_in words)) (leaf_fault (built command_app) nothing_held words refl)
    ∙ reads words known false none no nothing_held start ∙ whole (parts_from false words) ∙ sym (rw known refl)
  where
    whole : (o : Option Parts) → plan_after none no o ≡ plan_of_parts o
    whole None = refl
    whole (Some parts) = refl

-- ---- for a caller of clap

pub foreign_words : (words : List Text) → list_any is_foreign words ≡ true → plan_of words ≡ None
foreign_words words e = rw e refl

pub taken_words : (words : List Text) (texts : Texts) → NoneForeign words → fault_of command_app words ≡ [] → texts ≡ texts_in words
    → plan_of words ≡ plan_of_texts texts
taken_words words texts known taken is =
    sym (clap_reads words known) ∙ ap (λ ks. outcome ks (texts_in words)) taken ∙ ap plan_of_texts (sym is)

pub refused_words : (words : List Text) (e : Error) → NoneForeign words → HasKind (fault_of command_app words) e → (kind_of e ≡ kind.OutOfMemory → ⊥)
    → plan_of words ≡ None
refused_words words e known has other = go (fault_of command_app words) refl has
  where
    go : (ks : Kinds) → fault_of command_app words ≡ ks → HasKind ks e → plan_of words ≡ None
    go [] is (inl memory) = absurd (other memory)
    go [] is (inr never) = absurd never
    go (k ∷ ks) is h = sym (clap_reads words known) ∙ ap (λ ks. outcome ks (texts_in words)) is
