use Rattle.std.proofs.Common.{◌≡◌, ℕ, List, [], replicate, sym, ap, subst, ◌∙◌, arith}
use Rattle.za_script.specs.ScriptLists.{total_of, AreScripts}
use Rattle.za_script.proofs.Totals.{total_of-empty, AreScripts-empty}
use Rattle.za_script.proofs.scripts.Scripts.empty.Goals as goal

pub invariant_of-result : goal.invariant_of-result
invariant_of-result c =
    let done : c.loop.counter ≡ c.args.n = omega arith in
    let all : replicate {A = List ℕ} c.args.n [] ≡ c.loop.words.items = ap (λ n. replicate {A = List ℕ} n []) (sym done) ∙ sym c.loop.invariant in
    record {
      counted = sym (ap total_of (sym all) ∙ total_of-empty c.args.n);
      limits = subst AreScripts all (AreScripts-empty c.args.n c.requires.some c.requires.few);
    }
