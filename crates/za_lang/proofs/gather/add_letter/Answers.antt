use Rattle.std.proofs.Common.{◌≡◌, ◌∙◌, ◌+◌, ◌≤◌, Some, ap, sym, rules, arith}
use Rattle.std.specs.Prelude.{unwrap_or}
use Rattle.std.proofs.lemmas.Bool.Decides.{nat_tests}
use Rattle.za_script.specs.declared.fault.ScriptFault.TheVariants.{OutOfMemory}
use Rattle.za_script.specs.Limits.{most_script_letters}
use Rattle.za_script.specs.ScriptLists.{total_of, add_run_fault}
use Rattle.za_lang.specs.Answers.{refusal_of_step}
use Rattle.za_lang.specs.Gathering.{IsWrong}
use Rattle.za_lang.specs.Tests.{step_fault}
use Rattle.za_lang.proofs.Added.{added_run}
use Rattle.za_lang.proofs.StepFaults.{one_run, run_right, step_right, wrong_run}
use Rattle.za_lang.proofs.gather.add_letter.Goals as goal

pub returns : goal.returns
returns c =
    let alphabet = c.args.alphabet.now in
    let old = c.args.scripts.now in
    let a = c.args.a in
    let p = c.args.p in
    let one = one_run alphabet old p a c.requires.limits.few_letters in
    let right = run_right alphabet old p a 1 (sym one ∙ c.in_ok-add.ensures.fault) in
    let full = right.1 in
    let room : total_of old + 1 ≤ most_script_letters = grind (arith, nat_tests) in (
      step_right alphabet.letters p (total_of old) a.0 1 right.0 right.1,
      added_run alphabet old c.add.new.self p a.0 1 c.requires.process c.requires.limits room c.requires.letter right.0 c.in_ok-add.ensures.ok,
    )

pub returns-in_err-add : goal.returns-in_err-add
returns-in_err-add c =
    let alphabet = c.args.alphabet.now in
    let old = c.args.scripts.now in
    let a = c.args.a in
    let p = c.args.p in
    let e = c.in_err-add.field-0.0 in
    let one = one_run alphabet old p a c.requires.limits.few_letters in
    let why : e ≡ unwrap_or (add_run_fault alphabet old p a 1) OutOfMemory = c.in_err-add.ensures.fault ∙ ap (λ o. unwrap_or o OutOfMemory) one in
    let wrong : IsWrong (step_fault alphabet.letters p (total_of old) (Some a.0) (Some 1)) (refusal_of_step e) = wrong_run alphabet old p a 1 e why in
    search (rules, wrong)
