use Rattle.std.proofs.Common.{◌≡◌, ◌∙◌, sym, ap, subst, map, string_bytes, codes, Result, Ok, Err, MatchResult, inl, []}
use Rattle.std.specs.Result.{IsErrAnd}
use Rattle.clap.specs.Words.{App, HasKind, Text, app_of, fault_of, first_of, first_value, found_of, is_simple, is_simple_and_free, kind_of, matches_of, rows_of}
use Rattle.clap.specs.declared.error.Error.{Error}
use Rattle.clap.specs.declared.error.kind.ErrorKind.TheVariants.{OutOfMemory}
use Rattle.clap.proofs.WalkLemmas.{first_value-rows}
use Rattle.za_command.specs.Private.Command.{command_app, texts_in}
use Rattle.za_command.proofs.command.found_in.Goals as goal

for_memory : {T : Type 0} (P : T → Type 0) (Q : Error → Type 0) (r : Result T Error) → IsErrAnd r (λ e. kind_of e ≡ OutOfMemory)
    → ((e : Error) → kind_of e ≡ OutOfMemory → Q e) → MatchResult r P Q
for_memory P Q (Ok x) h q = absurd h
for_memory P Q (Err e) h q = q e h

for_fault : {T : Type 0} (P : T → Type 0) (Q : Error → Type 0) (r : Result T Error) (x : Error) → IsErrAnd r (λ e. e ≡ x) → Q x → MatchResult r P Q
for_fault P Q (Ok y) x h q = absurd h
for_fault P Q (Err e) x h q = subst Q (sym h) q

pub returns-in_err-command : goal.returns-in_err-command
returns-in_err-command c = for_memory _ _ c.from_residual.result c.from_residual.ensures.1 (λ e h. inl h)

pub returns-in_err-matches : goal.returns-in_err-matches
returns-in_err-matches c =
    let is : app_of c.in_ok-command.command ≡ command_app = c.in_ok-command.ensures in
    let words = map string_bytes c.args.words.now in
    let kinds : HasKind (fault_of (app_of c.in_ok-command.command) words) c.in_err-matches.field-0.0 =
    c.in_err-matches.ensures.kinds (ap is_simple_and_free is) in
    for_fault _ _ c.from_residual-in_err-matches.result c.in_err-matches.field-0.0 c.from_residual-in_err-matches.ensures.1
    (subst (λ (a : App). HasKind (fault_of a words) c.in_err-matches.field-0.0) is kinds)

pub returns : goal.returns
returns c =
    let is : app_of c.in_ok-command.command ≡ command_app = c.in_ok-command.ensures in
    let words = map string_bytes c.args.words.now in
    let m = c.in_ok-matches.matches in
    let kinds : fault_of (app_of c.in_ok-command.command) words ≡ [] = c.in_ok-matches.ensures.kinds (ap is_simple_and_free is) in
    let found : rows_of (found_of m) ≡ matches_of command_app words = (c.in_ok-matches.ensures.matches (ap is_simple is)).0
    ∙ ap (λ (a : App). matches_of a words) is in
    let at : (id : Text) → first_value (found_of m) id ≡ first_of id (matches_of command_app words) = λ id. first_value-rows (found_of m) id
    ∙ ap (first_of id) found in
    let command_is : _ ≡ (texts_in words).command = c.get_str.ensures ∙ at (codes "command") in
    let number_is : _ ≡ (texts_in words).number = c.get_str-2.ensures ∙ at (codes "number") in
    let cache_is : _ ≡ (texts_in words).cache = c.get_str-3.ensures ∙ at (codes "cache") in
    (sym (ap (λ (a : App). fault_of a words) is) ∙ kinds, λ i. record { command = command_is i; number = number_is i; cache = cache_is i })
