-- What the command words ask for.
use Rattle.std.specs.Prelude.{ℕ, List, Bool, true, false, not, if◌then◌else◌}
use Rattle.std.specs.Option.{option_map_or}
use Rattle.za_command.specs.declared.plan.Plan.{Plan}
use Rattle.za_command.specs.declared.plan.Plan.TheVariants.{Solo, Run, Check, Locals, Journal, Audit, Build, News}
use Rattle.za_command.specs.declared.plan.Plan.TheVariants.{Thaw, Gen, Freeze}
use Rattle.za_command.specs.Plans.{plan_of}
use Rattle.za_query.specs.declared.query.Query.TheVariants as query
use Rattle.zielonka.specs.declared.request.Call.{Call}
use Rattle.zielonka.specs.declared.request.Call.TheVariants.{Plain, Threaded, Top}
use Rattle.zielonka.specs.declared.request.Command.TheVariants as command
use Rattle.zielonka.specs.declared.request.Request.{Request}
use Rattle.zielonka.specs.declared.request.Request.TheVariants.{Usage, Answer, Ask, Generate}

-- whether a plan is answered on threads
abbrev pub is_for_threads : Plan → Bool
is_for_threads (Solo cache) = false
is_for_threads (Run cache) = true
is_for_threads (Check cache) = false
is_for_threads (Locals cache) = false
is_for_threads (Journal cache) = true
is_for_threads Audit = false
is_for_threads Build = false
is_for_threads News = false
is_for_threads Thaw = true
is_for_threads (Gen number) = false
is_for_threads (Freeze cut) = false

-- whether the called function has the form of a plan
abbrev pub has_form : Call → Plan → Bool
has_form Plain plan = not (is_for_threads plan)
has_form Threaded plan = is_for_threads plan
has_form Top plan = true

-- what a plan asks for
abbrev pub request_by : Plan → Request
request_by (Solo cache) = Answer (command.Solo cache)
request_by (Run cache) = Answer (command.Run cache)
request_by (Check cache) = Answer (command.Check cache)
request_by (Locals cache) = Answer (command.Locals cache)
request_by (Journal cache) = Answer (command.Journal cache)
request_by Audit = Answer command.Audit
request_by Build = Ask query.Build
request_by News = Ask query.News
request_by Thaw = Answer command.Thaw
request_by (Gen number) = Generate number
request_by (Freeze cut) = Ask (query.Freeze cut)

-- a plan whose form the called function doesn't have asks for the usage line
abbrev pub request_of : Call → Plan → Request
request_of call plan = if has_form call plan then request_by plan else Usage

-- and so do command words in no form at all
abbrev pub request_in : Call → List (List ℕ) → Request
request_in call words = option_map_or (request_of call) (plan_of words) Usage

-- whether command words are in a form that is answered on threads
abbrev pub are_for_threads : List (List ℕ) → Bool
are_for_threads words = option_map_or is_for_threads (plan_of words) false
