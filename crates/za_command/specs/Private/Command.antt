-- The command words as clap reads them: one simple command.
use Rattle.std.specs.Prelude.{codes, true, List, Option, Some, None, option_map, option_and_then}
use Rattle.clap.specs.Words.{App, first_of, matches_of, new_app, new_rule, with_rule}
use Rattle.za_command.specs.Plans.{Text, plan_of_pair, plan_of_word, plan_with, cache_of}
use Rattle.za_command.specs.declared.plan.Plan.{Plan}
use Rattle.za_command.specs.declared.command.Found.{Found}

-- no argument, nothing before the words, and no flag of clap's own
abbrev pub bare_app : App
bare_app =
    let plain = new_app (codes "zla") in
    let top = record plain.top { no_binary_name = true; disable_help_flag = true; disable_version_flag = true } in
    record plain { top = top }

-- two positional arguments and the option
abbrev pub command_app : App
command_app = with_rule (with_rule (with_rule bare_app (new_rule (codes "command"))) (new_rule (codes "number")))
    (record (new_rule (codes "cache")) { long = Some (codes "cache") })

-- what clap finds in command words that it takes
pub record Texts : Type 0 where
  pub command : Option Text
  pub number : Option Text
  pub cache : Option Text

abbrev pub texts_in : List Text → Texts
texts_in words = record {
  command = first_of (codes "command") (matches_of command_app words);
  number = first_of (codes "number") (matches_of command_app words);
  cache = first_of (codes "cache") (matches_of command_app words);
}

abbrev pub texts_of : Found → Texts
texts_of found = record {
  command = option_map (λ s. s.now) found.command;
  number = option_map (λ s. s.now) found.number;
  cache = option_map (λ s. s.now) found.cache;
}

-- what is asked for by what clap finds
abbrev pub plan_by : Option Text → Option Text → Option Text → Option Plan
plan_by None number cache = None
plan_by (Some name) None None = plan_of_word name
plan_by (Some name) None (Some value) = option_and_then (plan_with name) (cache_of value)
plan_by (Some name) (Some word) None = plan_of_pair name word
plan_by (Some name) (Some word) (Some value) = None

abbrev pub plan_of_texts : Texts → Option Plan
plan_of_texts texts = plan_by texts.command texts.number texts.cache
