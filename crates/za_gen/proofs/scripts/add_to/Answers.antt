use Rattle.std.proofs.Common.{List, [], ◌∷◌, ℕ, ap, arith}
use Rattle.za_script.specs.ScriptLists.{total_of}
use Rattle.za_script.proofs.Totals.{total_of-append}
use Rattle.za_gen.proofs.scripts.add_to.Goals as goal

pub returns-in_default-clause-total : goal.returns-in_default-clause-total
returns-in_default-clause-total c =
    let room = c.requires.process in
    let size = c.requires.size in
    let more = total_of-append c.args.scripts.now c.args.p (c.args.a.0 ∷ []) (omega arith) in
    let is = ap (λ (s : List (List ℕ)). total_of s) c.in_default.ensures.ok in
    omega arith
