use Rattle.std.proofs.Common.{sym, ap, ◌∙◌, arith}
use Rattle.za_alpha.specs.Words.{has}
use Rattle.za_alpha.specs.Procs.{members}
use Rattle.za_audit.proofs.Counting.{next-fails, next-holds}
use Rattle.za_audit.proofs.counts.is_next.Goals as goal

pub returns-then-not-comes_next : goal.returns-then-not-comes_next
returns-then-not-comes_next c =
    let own = sym (c.if-has.ensures ∙ ap (λ s. has (members s) c.loop-p.p) c.loc-loc.ensures) in
    sym (next-fails c.args.alphabet.now c.args.scripts.now c.args.counts.now c.args.a.0 c.loop-p.p own (sym c.if-not-comes_next.ensures))

pub returns : goal.returns
returns c =
    sym (next-holds c.args.alphabet.now c.args.scripts.now c.args.counts.now c.args.a.0 c.letters.ensures.whole.located (omega arith)
    (λ p lp own. c.loop-p.invariant p (omega arith) own))
