use Rattle.std.proofs.Common.{◌≡◌, ◌≤◌, ◌+◌, ◌/◌, ◌%◌, ℕ, length, ap, subst, ◌∙◌, arith}
use Rattle.std.proofs.Math.Nat.{mul-le-mul}
use Rattle.za_alpha.specs.Limits.{most_letters}
use Rattle.za_dfa.specs.Limits.{most_states}
use Rattle.za_min.specs.Private.Exploring.{merged_of, IsTarget}
use Rattle.za_min.proofs.FoundSteps.{words-few}
use Rattle.za_min.proofs.TableSteps.{targets-more}
use Rattle.za_min.proofs.table.targets_of.Goals as goal

pub overflow_mul-i-end : goal.overflow_mul-i-end
overflow_mul-i-end c =
    let few = words-few c.args.dfa.now c.args.classes.now c.requires.classes c.requires.found.done 0 c.args.found.now.words.items c.args.found.now.states.items
    c.requires.found.found in
    let most = c.requires.classes.whole.few_states in
    let many : c.len.result ≤ most_states + 1 = omega arith in
    let letters : c.letters-letters.result ≤ most_letters = let w = c.letters-letters.ensures.whole.few_letters in omega arith in
    let size = mul-le-mul many letters in omega arith

pub loop-i-preserved : goal.loop-i-preserved
loop-i-preserved c =
    let d = merged_of c.args.dfa.now c.args.classes.now in
    let letters : c.letters-letters.result ≡ length c.args.dfa.now.alphabet.letters = c.letters-letters.ensures.value
    ∙ ap (λ x. length x.letters) c.alphabet.ensures in
    let P : ℕ → Type 0 = λ m. IsTarget d c.args.found.now.words.items (c.loop-i.i / m) (c.loop-i.i % m) c.target.result in
    targets-more d c.args.found.now.words.items c.loop-i.i c.target.result c.loop-i.targets.items c.push.new.self.items c.loop-i.invariant
    (subst P letters c.target.ensures) c.in_ok-push.ensures.items
