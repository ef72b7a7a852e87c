use Rattle.std.proofs.Common.{◌≡◌, ◌∙◌, length, arith, rules}
use Rattle.za_alpha.proofs.Projections.{letter-within}
use Rattle.za_write.proofs.Kept.{cut_back}
use Rattle.za_write.proofs.words.push_names.Goals as goal

pub name-requires : goal.name-requires
name-requires c = letter-within (length c.args.alphabet.now.letters) c.args.letters.now c.loop-a.a-index _ c.requires (omega arith)

pub returns-then-is_err-clause-err : goal.returns-then-is_err-clause-err
returns-then-is_err-clause-err c =
    let long : c.len-len.result ≡ length c.args.text.now.items = omega (arith, c.args.text.now.ok.0) in
    let kept : c.push_word.new.text.items ≡ c.loop-a.text.items = search rules in
    c.truncate.ensures.items ∙ cut_back _ _ _ _ long (kept ∙ c.loop-a.invariant)
