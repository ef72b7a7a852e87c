use Rattle.std.proofs.Common.{◌≡◌, ◌+◌, ◌≤◌, ◌<◌, ◌++◌, length, replicate, arith}
use Rattle.std.proofs.lemmas.Grind.{common_steps}
use Rattle.std.proofs.lemmas.List.{length-replicate}
use Rattle.za_script.specs.ScriptLists.{script_of, total_of}
use Rattle.za_script.specs.Limits.{most_script_letters}
use Rattle.za_script.proofs.Totals.{total_of-append, AreScripts-append}
use Rattle.za_script.proofs.scripts.Scripts.add_run.Goals as goal

pub invariant_of-self-2 : goal.invariant_of-self-2
invariant_of-self-2 c =
    let scripts = c.self.inside.words.items in
    let within : c.args.p < length scripts = grind (arith, common_steps) in
    let run = replicate c.args.count c.args.a.0 in
    let new : c.push_run.new.self ≡ script_of scripts c.args.p ++ run = grind (arith, common_steps) in
    let more = total_of-append scripts c.args.p run within in
    let long : length run ≡ c.args.count = length-replicate c.args.count c.args.a.0 in
    let was = c.self.invariant.counted in
    let few = c.self.invariant.limits.few_letters in
    let fits : total_of scripts + length run ≤ most_script_letters = omega arith in
    rw new (record { counted = omega arith; limits = AreScripts-append scripts c.args.p run within c.self.invariant.limits fits })
