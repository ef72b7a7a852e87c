use Rattle.std.proofs.Common.{◌≡◌, ◌∙◌, ◌∷◌, false, true, refl, ap, sym, subst}
use Rattle.std.specs.Option.{option_or}
use Rattle.std.proofs.lemmas.Result.{MatchResult-weaker}
use Rattle.std.specs.List.{list_all}
use Rattle.za_text.specs.Lines.{raw, is_allowed}
use Rattle.za_text.specs.Words.{words_of}
use Rattle.za_lang.specs.Documents.{begins_comment, but_comments, line_fault, own_fault, version_by, version_said, words_fault, words_in}
use Rattle.za_lang.specs.Order.{head_of, order_fault}
use Rattle.za_lang.specs.Gathering.{more, more_said, IsWrong}
use Rattle.za_lang.specs.Reading.{Keeps, Awaits}
use Rattle.za_lang.proofs.Keeping.{same_comment}
use Rattle.za_lang.proofs.reading.Reading.take.Goals as goal

pub returns-clause-taken : goal.returns-clause-taken
unfolding line_fault
returns-clause-taken c s later h awaits =
    let v = s.naming.version in
    let self = c.args.self.now in
    let line = raw c.args.line.now in
    let first = c.in-Some.first.now in
    let rest = c.next.new.self in
    let head = c.head_of.result in
    let words : words_of line.text ≡ first ∷ rest = sym c.new-words.ensures ∙ c.in-Some.ensures in
    let header : Awaits self (version_said (head_of first) rest) v = subst (λ ws. Awaits self (version_by later ws) v) words awaits in
    let no : begins_comment v first ≡ false =
    sym (same_comment self v first rest header) ∙ ap (λ u. begins_comment u first) (sym (c.version.ensures s h)) ∙ sym c.is_comment.ensures
    ∙ c.if-is_comment.false in
    let in_words : words_in v line ≡ first ∷ rest = ap (but_comments v) words ∙ (rw no refl) in
    let at : head_of first ≡ head = sym c.head_of.ensures in
    let whole : line.whole ≡ true = c.if-not-line.false in
    let allowed : list_all is_allowed line.text ≡ true = sym c.are_allowed.ensures ∙ c.if-not-are_allowed.false in
    let right : line_fault s line ≡ words_fault s (words_in v line) = rw (whole, allowed) refl in
    let fault : line_fault s line ≡ option_or (order_fault s.place head) (own_fault s head rest) =
    right ∙ ap (words_fault s) in_words ∙ ap (λ k. option_or (order_fault s.place k) (own_fault s k rest)) at in
    let says : more s (words_in v line) ≡ more_said s head rest = ap (more s) in_words ∙ ap (λ k. more_said s k rest) at in
    let taken = c.take_words.ensures.taken s h (subst (λ k. Awaits self (version_said k rest) v) at header) in
    MatchResult-weaker c.take_words.result taken
    (λ _ t. (fault ∙ t.0, subst (Keeps c.take_words.new.self) (sym says) t.1, t.2 later v))
    (λ e w. subst (λ f. IsWrong f e) (sym fault) w)
