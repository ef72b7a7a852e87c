use Rattle.std.proofs.Common.{◌≡◌, ◌∙◌, sym, subst, map, string_bytes, false, List, Option, Some, None, Result, MatchResult}
use Rattle.std.specs.List.{list_any}
use Rattle.std.specs.Option.{ok_or}
use Rattle.clap.specs.Words.{Text}
use Rattle.clap.proofs.WalkLemmas.{list_any-map}
use Rattle.za_command.specs.Private.Command.{texts_of}
use Rattle.za_command.specs.Plans.{is_foreign, plan_of}
use Rattle.za_command.specs.declared.plan.Plan.{Plan}
use Rattle.za_command.specs.declared.plan.WordsFault.{WordsFault}
use Rattle.za_command.specs.declared.plan.WordsFault.TheVariants.{Usage}
use Rattle.za_command.proofs.Reading.{foreign_words, refused_words, taken_words}
use Rattle.za_command.proofs.plan.read_words.Goals as goal

-- the plan, or else that there is none
or_usage : (words : List Text) (o : Option Plan) → plan_of words ≡ o
    → MatchResult (ok_or o Usage) (λ plan. plan_of words ≡ Some plan) (λ fault. fault ≡ Usage → plan_of words ≡ None)
or_usage words None is = λ e. is
or_usage words (Some plan) is = is

pub returns-then-has_foreign : goal.returns-then-has_foreign
returns-then-has_foreign c =
    λ e. foreign_words (map string_bytes c.args.words.now)
    (sym (list_any-map is_foreign string_bytes c.args.words.now) ∙ sym c.has_foreign.ensures ∙ c.if-has_foreign.true)

pub returns-in-Ok : goal.returns-in-Ok
returns-in-Ok c =
    let words = map string_bytes c.args.words.now in
    let known : list_any is_foreign words ≡ false = sym (list_any-map is_foreign string_bytes c.args.words.now) ∙ sym c.has_foreign.ensures
    ∙ c.if-has_foreign.false in
    let taken = taken_words words (texts_of c.in-Ok.found) known c.in-Ok.ensures.0 c.in-Ok.ensures.1 in
    subst (λ (r : Result Plan WordsFault). MatchResult r (λ plan. plan_of words ≡ Some plan) (λ fault. fault ≡ Usage → plan_of words ≡ None))
    (sym c.ok_or.ensures.value) (or_usage words c.plan_of_found.result (taken ∙ sym c.plan_of_found.ensures))

pub returns : goal.returns
returns c =
    let words = map string_bytes c.args.words.now in
    let known : list_any is_foreign words ≡ false = sym (list_any-map is_foreign string_bytes c.args.words.now) ∙ sym c.has_foreign.ensures
    ∙ c.if-has_foreign.false in
    λ e. refused_words words c.in-Err.fault known c.in-Err.ensures (λ memory. c.in_default.not-OutOfMemory (c.kind.ensures ∙ memory))
