use Rattle.std.proofs.Common.{◌≡◌, ◌∙◌, ◌∷◌, ◌++◌, false, true, ap, sym, subst, None}
use Rattle.std.specs.List.{list_all}
use Rattle.std.proofs.lemmas.Result.{MatchResult-weaker}
use Rattle.za_text.specs.Lines.{raw, is_allowed}
use Rattle.za_text.specs.Words.{words_of}
use Rattle.za_lang.specs.Documents.{begins_comment, words_in}
use Rattle.za_lang.specs.declared.version.Version.TheVariants.{Two}
use Rattle.za_expr.specs.Documents.{tokens_by, version_at}
use Rattle.za_expr.specs.Private.Keeping.{more_with, KeepsWith}
use Rattle.za_expr.proofs.Places.{kept_at, no_comment}
use Rattle.za_expr.proofs.Lines.{right_line, right_words, wrong_line}
use Rattle.za_expr.proofs.reading.take.Goals as goal

pub returns-clause-taken : goal.returns-clause-taken
returns-clause-taken c s tokens h =
    let line = raw c.args.line.now in
    let first = c.in-Some.first.now in
    let rest = c.next.new.self in
    let words : words_of line.text ≡ first ∷ rest = sym c.new-words.ensures ∙ c.in-Some.ensures in
    let at = c.place.ensures ∙ kept_at c.args.reading.now s tokens h in
    let version = c.version_at.ensures ∙ ap version_at at in
    let no : begins_comment (version_at s.place) first ≡ false = ap (λ v. begins_comment v first) (sym version) ∙ sym c.is_comment.ensures
    ∙ c.if-is_comment.false in
    let whole : line.whole ≡ true = c.if-not-line.false in
    let allowed : list_all is_allowed line.text ≡ true = sym c.are_allowed.ensures ∙ c.if-not-are_allowed.false in
    MatchResult-weaker c.take_words.result (c.take_words.ensures.taken s tokens h)
    (λ _ t.
    let two : words_in Two line ≡ first ∷ rest = right_words line first rest words (no_comment s.place s first rest no t.0) in (
      right_line s line first rest whole allowed words no None t.0,
      subst (λ ws. KeepsWith c.take_words.new.reading (more_with s ws) (tokens ++ tokens_by ws)) (sym two) t.1,
    ))
    (λ e w. wrong_line s line first rest whole allowed words no e w)
