use Rattle.std.proofs.Common.{◌≡◌, ◌∙◌, ◌+◌, ◌++◌, [], ◌∷◌, None, ap, sym, refl, arith, append_assoc}
use Rattle.std.specs.Prelude.{unwrap_or}
use Rattle.std.specs.Option.{option_or}
use Rattle.za_alpha.specs.Alphabet.{place_of}
use Rattle.za_script.specs.ScriptLists.{total_of}
use Rattle.za_lang.specs.Items.{item_of, run_of, letters_of_items}
use Rattle.za_lang.specs.Gathering.{AreAdded}
use Rattle.za_lang.specs.Tests.{step_fault, items_fault}
use Rattle.za_lang.proofs.Added.{added_none, added_more}
use Rattle.za_lang.proofs.StepFaults.{step_size}
use Rattle.za_lang.proofs.gather.add_items.Goals as goal

pub loop-word-init : goal.loop-word-init
loop-word-init c = record { fault = refl; added = ([], (added_none c.args.alphabet.now c.args.scripts.now c.args.p c.requires.limits, refl)) }

pub loop-word-preserved : goal.loop-word-preserved
loop-word-preserved c =
    let v = c.args.version in
    let alphabet = c.args.alphabet.now in
    let letters = alphabet.letters in
    let p = c.args.p in
    let old = c.args.scripts.now in
    let mid = c.loop-word.scripts in
    let new = c.add_item.new.scripts in
    let rest = c.next.new.self in
    let item = item_of v c.in-Some.word.now in
    let o = place_of letters item.name in
    let words : c.loop-word.words ≡ c.in-Some.word.now ∷ rest = c.in-Some.ensures in
    let right : step_fault letters p (total_of mid) o item.count ≡ None = c.in_ok-add_item.ensures.0 in
    let one : AreAdded alphabet mid new p (run_of o item.count) = c.in_ok-add_item.ensures.1 in
    let size : total_of mid + unwrap_or item.count 0 ≡ total_of new = let t = one.total in let n = step_size letters p (total_of mid) o item.count right in
    omega arith in
    let before = c.loop-word.invariant.added.0 in
    let had = c.loop-word.invariant.added.1 in
    record {
      fault =
          ap (λ n. items_fault v letters p n rest) (sym size)
          ∙ ap (λ f. option_or f (items_fault v letters p (total_of mid + unwrap_or item.count 0) rest)) (sym right)
          ∙ ap (items_fault v letters p (total_of mid)) (sym words) ∙ c.loop-word.invariant.fault;
      added = (
        before ++ run_of o item.count,
        (
          added_more alphabet old mid new p before (run_of o item.count) c.requires.process had.0 one,
          append_assoc before (run_of o item.count) (letters_of_items v letters rest)
              ∙ ap (λ ws. before ++ letters_of_items v letters ws) (sym words) ∙ had.1,
        ),
      );
    }
