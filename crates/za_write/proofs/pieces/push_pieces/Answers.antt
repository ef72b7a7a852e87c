use Rattle.std.proofs.Common.{◌≡◌, ◌∙◌, length, arith, rules}
use Rattle.za_write.proofs.Kept.{cut_back}
use Rattle.za_write.proofs.pieces.push_pieces.Goals as goal

pub returns-then-is_err-clause-err : goal.returns-then-is_err-clause-err
returns-then-is_err-clause-err c =
    let long : c.len-len.result ≡ length c.args.text.now.items = omega (arith, c.args.text.now.ok.0) in
    let kept : c.extend_from_slice.new.self.items ≡ c.loop-piece.text.items = search rules in
    c.truncate.ensures.items ∙ cut_back _ _ _ _ long (kept ∙ c.loop-piece.invariant)
