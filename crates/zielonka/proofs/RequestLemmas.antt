-- What words ask of each call.
use Rattle.std.proofs.Common.{◌≡◌, ℕ, true, false, List, Option, Some, None, refl, sym, ap}
use Rattle.std.specs.Option.{option_map_or}
use Rattle.za_command.specs.declared.plan.Plan.{Plan}
use Rattle.za_command.specs.declared.plan.Plan.TheVariants.{Solo, Run, Check, Locals, Journal, Audit, Build, News, Thaw, Gen, Freeze}
use Rattle.za_command.specs.Plans.{plan_of}
use Rattle.zielonka.specs.Requests.{is_for_threads, request_of, request_in, are_for_threads}
use Rattle.zielonka.specs.Shown.{runs_on_threads}
use Rattle.zielonka.specs.declared.request.Call.TheVariants.{Plain, Threaded, Top}
use Rattle.zielonka.specs.declared.request.Command.{Command}
use Rattle.zielonka.specs.declared.request.Command.TheVariants as asks
use Rattle.zielonka.specs.declared.request.Request.TheVariants.{Usage, Answer}

-- one command is asked for
of-one : (c k : Command) → Answer c ≡ Answer k → runs_on_threads k ≡ runs_on_threads c
of-one c k e = let same : c ≡ k = cc in ap runs_on_threads (sym same)

-- a command that `plain` has waits for nobody
plain-by : (o : Option Plan) (k : Command) → option_map_or (request_of Plain) o Usage ≡ Answer k → runs_on_threads k ≡ false
plain-by None k e = absurd (cc)
plain-by (Some (Solo cache)) k e = of-one (asks.Solo cache) k e
plain-by (Some (Run cache)) k e = absurd (cc)
plain-by (Some (Check cache)) k e = of-one (asks.Check cache) k e
plain-by (Some (Locals cache)) k e = of-one (asks.Locals cache) k e
plain-by (Some (Journal cache)) k e = absurd (cc)
plain-by (Some Audit) k e = of-one asks.Audit k e
plain-by (Some Build) k e = absurd (cc)
plain-by (Some News) k e = absurd (cc)
plain-by (Some Thaw) k e = absurd (cc)
plain-by (Some (Gen number)) k e = absurd (cc)
plain-by (Some (Freeze cut)) k e = absurd (cc)

pub plain-alone : (words : List (List ℕ)) (k : Command) → request_in Plain words ≡ Answer k → runs_on_threads k ≡ false
plain-alone words k e = plain-by (plan_of words) k e

-- and one that `threaded` has runs on threads
threaded-by : (o : Option Plan) (k : Command) → option_map_or (request_of Threaded) o Usage ≡ Answer k → runs_on_threads k ≡ true
threaded-by None k e = absurd (cc)
threaded-by (Some (Solo cache)) k e = absurd (cc)
threaded-by (Some (Run cache)) k e = of-one (asks.Run cache) k e
threaded-by (Some (Check cache)) k e = absurd (cc)
threaded-by (Some (Locals cache)) k e = absurd (cc)
threaded-by (Some (Journal cache)) k e = of-one (asks.Journal cache) k e
threaded-by (Some Audit) k e = absurd (cc)
threaded-by (Some Build) k e = absurd (cc)
threaded-by (Some News) k e = absurd (cc)
threaded-by (Some Thaw) k e = of-one asks.Thaw k e
threaded-by (Some (Gen number)) k e = absurd (cc)
threaded-by (Some (Freeze cut)) k e = absurd (cc)

pub threaded-runs : (words : List (List ℕ)) (k : Command) → request_in Threaded words ≡ Answer k → runs_on_threads k ≡ true
threaded-runs words k e = threaded-by (plan_of words) k e

-- what is asked of `top` is asked of one of the two
top-by : (o : Option Plan) → option_map_or is_for_threads o false ≡ true → option_map_or (request_of Threaded) o Usage ≡ option_map_or (request_of Top) o Usage
top-by None e = absurd (cc)
top-by (Some (Solo cache)) e = absurd (cc)
top-by (Some (Run cache)) e = refl
top-by (Some (Check cache)) e = absurd (cc)
top-by (Some (Locals cache)) e = absurd (cc)
top-by (Some (Journal cache)) e = refl
top-by (Some Audit) e = absurd (cc)
top-by (Some Build) e = absurd (cc)
top-by (Some News) e = absurd (cc)
top-by (Some Thaw) e = refl
top-by (Some (Gen number)) e = absurd (cc)
top-by (Some (Freeze cut)) e = absurd (cc)

pub top-threads : (words : List (List ℕ)) → are_for_threads words ≡ true → request_in Threaded words ≡ request_in Top words
top-threads words e = top-by (plan_of words) e

alone-by : (o : Option Plan) → option_map_or is_for_threads o false ≡ false → option_map_or (request_of Plain) o Usage ≡ option_map_or (request_of Top) o Usage
alone-by None e = refl
alone-by (Some (Solo cache)) e = refl
alone-by (Some (Run cache)) e = absurd (cc)
alone-by (Some (Check cache)) e = refl
alone-by (Some (Locals cache)) e = refl
alone-by (Some (Journal cache)) e = absurd (cc)
alone-by (Some Audit) e = refl
alone-by (Some Build) e = refl
alone-by (Some News) e = refl
alone-by (Some Thaw) e = absurd (cc)
alone-by (Some (Gen number)) e = refl
alone-by (Some (Freeze cut)) e = refl

pub top-alone : (words : List (List ℕ)) → are_for_threads words ≡ false → request_in Plain words ≡ request_in Top words
top-alone words e = alone-by (plan_of words) e
