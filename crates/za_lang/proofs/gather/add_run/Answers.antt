use Rattle.std.proofs.Common.{◌≡◌, ◌+◌, ◌≤◌, Some, sym, rules, arith}
use Rattle.std.proofs.lemmas.Bool.Decides.{nat_tests}
use Rattle.za_alpha.specs.Alphabet.{place_of}
use Rattle.za_script.specs.Limits.{most_script_letters}
use Rattle.za_script.specs.ScriptLists.{total_of}
use Rattle.za_lang.specs.Answers.{refusal_of_step}
use Rattle.za_lang.specs.Gathering.{IsWrong}
use Rattle.za_lang.specs.Tests.{step_fault}
use Rattle.za_lang.proofs.Places.{place_within}
use Rattle.za_lang.proofs.Added.{added_run}
use Rattle.za_lang.proofs.StepFaults.{step_right, run_right, wrong_run}
use Rattle.za_lang.proofs.gather.add_run.Goals as goal

pub loc-requires : goal.loc-requires
loc-requires c = place_within c.args.alphabet.now.letters c.args.item.name.now c.in-Some.a.0 (sym c.in-Some.ensures)

pub add_run-requires-clause-letter : goal.add_run-requires-clause-letter
add_run-requires-clause-letter c = place_within c.args.alphabet.now.letters c.args.item.name.now c.in-Some.a.0 (sym c.in-Some.ensures)

pub returns : goal.returns
returns c =
    let alphabet = c.args.alphabet.now in
    let old = c.args.scripts.now in
    let a = c.in-Some.a.0 in
    let n = c.in-Some-count.count in
    let found : place_of alphabet.letters c.args.item.name.now ≡ Some a = sym c.in-Some.ensures in
    let count : c.args.item.count ≡ Some n = c.in-Some-count.is in
    let known = place_within alphabet.letters c.args.item.name.now a found in
    let right = run_right alphabet old c.args.p c.in-Some.a n c.in_ok-add_run.ensures.fault in
    let full = right.1 in
    let room : total_of old + n ≤ most_script_letters = grind (arith, nat_tests) in
    rw (found, count) (
      step_right alphabet.letters c.args.p (total_of old) a n right.0 right.1,
      added_run alphabet old c.add_run.new.self c.args.p a n c.requires.process c.requires.limits room known right.0 c.in_ok-add_run.ensures.ok,
    )

pub returns-in_err-add_run : goal.returns-in_err-add_run
returns-in_err-add_run c =
    let alphabet = c.args.alphabet.now in
    let old = c.args.scripts.now in
    let a = c.in-Some.a.0 in
    let n = c.in-Some-count.count in
    let found : place_of alphabet.letters c.args.item.name.now ≡ Some a = sym c.in-Some.ensures in
    let count : c.args.item.count ≡ Some n = c.in-Some-count.is in
    let wrong : IsWrong (step_fault alphabet.letters c.args.p (total_of old) (place_of alphabet.letters c.args.item.name.now) c.args.item.count)
    (refusal_of_step c.in_err-add_run.field-0.0) =
    rw (found, count) (wrong_run alphabet old c.args.p c.in-Some.a n c.in_err-add_run.field-0.0 c.in_err-add_run.ensures.fault) in
    search (rules, wrong)
