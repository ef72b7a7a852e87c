use Rattle.std.proofs.Common.{◌≡◌, ◌+◌, ◌<◌, ◌≤◌, ◌∷◌, ◌++◌, [], length, arith}
use Rattle.std.proofs.lemmas.Grind.{common_steps}
use Rattle.za_script.specs.ScriptLists.{script_of, total_of}
use Rattle.za_script.specs.Limits.{most_script_letters}
use Rattle.za_script.proofs.Totals.{total_of-append, AreScripts-append}
use Rattle.za_script.proofs.scripts.Scripts.add.Goals as goal

pub invariant_of-self-2 : goal.invariant_of-self-2
invariant_of-self-2 c =
    let scripts = c.self.inside.words.items in
    let within : c.args.p < length scripts = grind (arith, common_steps) in
    let new : c.push.new.self ≡ script_of scripts c.args.p ++ c.args.a.0 ∷ [] = grind (arith, common_steps) in
    let more = total_of-append scripts c.args.p (c.args.a.0 ∷ []) within in
    let was = c.self.invariant.counted in
    let few = c.self.invariant.limits.few_letters in
    let room : total_of scripts + 1 ≤ most_script_letters = omega arith in
    rw new (record { counted = omega arith; limits = AreScripts-append scripts c.args.p (c.args.a.0 ∷ []) within c.self.invariant.limits room })
