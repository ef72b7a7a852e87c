use Rattle.std.proofs.Common.{◌≡◌, ◌∙◌, None, Some, Option, ap, sym, subst}
use Rattle.std.specs.Prelude.{MatchResult}
use Rattle.std.specs.Option.{option_or}
use Rattle.za_text.specs.declared.kind.Kind.{Kind}
use Rattle.za_lang.specs.declared.version.Version.{Version}
use Rattle.za_lang.specs.Documents.{own_fault}
use Rattle.za_lang.specs.Order.{order_fault}
use Rattle.za_lang.specs.Gathering.{more_said, IsWrong}
use Rattle.za_lang.specs.Reading.{Awaits, Keeps}
use Rattle.za_lang.proofs.Keeping.{kept_place}
use Rattle.za_lang.proofs.reading.Reading.take_words.Goals as goal

pub returns-in-Some-clause-taken : goal.returns-in-Some-clause-taken
returns-in-Some-clause-taken c s h awaits =
    let there = c.place.ensures ∙ kept_place c.args.self.now s h in
    let wrong : order_fault s.place c.args.head ≡ Some c.in-Some.kind = ap (λ p. order_fault p c.args.head) (sym there) ∙ sym c.in-Some.ensures in
    ap (λ o. option_or o (own_fault s c.args.head c.args.words)) wrong

pub returns : goal.returns
returns c = record {
  whole = c.open.ensures.whole;
  taken = λ s h awaits.
      let there = c.place.ensures ∙ kept_place c.args.self.now s h in
      let right : order_fault s.place c.args.head ≡ None = ap (λ p. order_fault p c.args.head) (sym there) ∙ sym c.in_default.ensures in
      let own = own_fault s c.args.head c.args.words in
      let P : Option Kind → Type 0 = λ fault. MatchResult c.open.result
      (λ _. (fault ≡ None) × Keeps c.open.new.self (more_said s c.args.head c.args.words) × ((later version : Version) → Awaits c.open.new.self later version))
      (IsWrong fault) in
      subst P (sym (ap (λ o. option_or o own) right)) (c.open.ensures.taken s h awaits);
}
