use Rattle.std.proofs.Common.{rules, ◌≡◌, ◌∙◌, ap, ap₂, codes, Some, true}
use Rattle.clap.specs.Words.{App, app_of, new_app, new_rule, rule_of, with_rule}
use Rattle.clap.specs.Simple.{app_of_fields}
use Rattle.za_command.specs.Private.Command.{bare_app}
use Rattle.za_command.proofs.command.command.Goals as goal

abbrev nameless : App → App
nameless a = record a { top = record a.top { no_binary_name = true } }

abbrev helpless : App → App
helpless a = record a { top = record a.top { disable_help_flag = true } }

abbrev versionless : App → App
versionless a = record a { top = record a.top { disable_version_flag = true } }

pub returns : goal.returns
returns c =
    let name_is : rule_of c.new-name.result ≡ new_rule (codes "command") = search rules in
    let number_is : rule_of c.new-number.result ≡ new_rule (codes "number") = search rules in
    let cache_is : rule_of c.long-cache.result ≡ record (new_rule (codes "cache")) { long = Some (codes "cache") } = search rules in
    let new_is : app_of c.new-2.result ≡ new_app (codes "zla") = c.new-2.ensures.app in
    let nameless_is : app_of c.no_binary_name.result ≡ nameless (app_of c.new-2.result) = ap app_of_fields c.no_binary_name.ensures in
    let helpless_is : app_of c.disable_help_flag.result ≡ helpless (app_of c.no_binary_name.result) = ap app_of_fields c.disable_help_flag.ensures in
    let versionless_is : app_of c.disable_version_flag-bare.result ≡ versionless (app_of c.disable_help_flag.result) =
    ap app_of_fields c.disable_version_flag-bare.ensures in
    let bare_is : app_of c.disable_version_flag-bare.result ≡ bare_app =
    versionless_is ∙ ap versionless (helpless_is ∙ ap helpless (nameless_is ∙ ap nameless new_is)) in
    let one_is : app_of c.in_ok-arg.field-0 ≡ with_rule bare_app (new_rule (codes "command")) = c.in_ok-arg.ensures.shape (search rules)
    ∙ ap₂ with_rule bare_is name_is in
    let two_is : app_of c.in_ok-arg-2.field-0 ≡ with_rule (with_rule bare_app (new_rule (codes "command"))) (new_rule (codes "number")) =
    c.in_ok-arg-2.ensures.shape (search rules) ∙ ap₂ with_rule one_is number_is in
    c.in_ok-command.ensures.shape (search rules) ∙ ap₂ with_rule two_is cache_is
