use Rattle.std.proofs.Common.{◌≡◌, None, Some, sym, subst, ℕ, Option}
use Rattle.std.specs.Prelude.{MatchResult}
use Rattle.za_alpha.specs.Alphabet.{place_of}
use Rattle.za_script.specs.ScriptLists.{total_of}
use Rattle.za_lang.specs.Items.{Item, item_letters, run_of}
use Rattle.za_lang.specs.Gathering.{AreAdded, IsWrong}
use Rattle.za_lang.specs.Tests.{item_fault, step_fault}
use Rattle.za_lang.proofs.Places.{place_within}
use Rattle.za_lang.proofs.PlainItems.{item_is, letter_item}
use Rattle.za_lang.proofs.gather.add_item.Goals as goal

pub add_letter-requires-clause-letter : goal.add_letter-requires-clause-letter
add_letter-requires-clause-letter c = place_within c.args.alphabet.now.letters c.args.word.now c.in-Some.a.0 (sym c.in-Some.ensures)

pub returns-in-Some : goal.returns-in-Some
returns-in-Some c =
    let alphabet = c.args.alphabet.now in
    let old = c.args.scripts.now in
    let new = c.add_letter.new.scripts in
    let p = c.args.p in
    let word = c.args.word.now in
    let found : place_of alphabet.letters word ≡ Some c.in-Some.a.0 = sym c.in-Some.ensures in
    let plain = letter_item alphabet c.args.version word c.in-Some.a.0 c.requires.names found in
    let P : Option ℕ → Type 0 = λ o. MatchResult c.add_letter.result
    (λ _. (step_fault alphabet.letters p (total_of old) o (Some 1) ≡ None) × AreAdded alphabet old new p (run_of o (Some 1)))
    (IsWrong (step_fault alphabet.letters p (total_of old) o (Some 1))) in
    let Q : Item → Type 0 = λ item. MatchResult c.add_letter.result
    (λ _. (item_fault alphabet.letters p (total_of old) item ≡ None) × AreAdded alphabet old new p (item_letters alphabet.letters item))
    (IsWrong (item_fault alphabet.letters p (total_of old) item)) in
    let own : P (Some c.in-Some.a.0) = c.add_letter.ensures in
    let there : Q (item_is word 1) = subst P c.in-Some.ensures own in
    subst Q (sym plain) there
