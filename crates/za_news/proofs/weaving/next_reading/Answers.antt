use Rattle.std.proofs.Common.{◌≡◌, ◌∙◌, true, false, slice_index, ap, sym, arith}
use Rattle.za_alpha.specs.Words.{has}
use Rattle.za_alpha.specs.Search.{least}
use Rattle.za_alpha.specs.Procs.{members}
use Rattle.za_alpha.specs.Alphabet.{loc_of}
use Rattle.za_alpha.proofs.Least.{least-is}
use Rattle.za_news.specs.Readings.{reading_at}
use Rattle.za_news.proofs.weaving.next_reading.Goals as goal

pub returns-then-has-clause-value : goal.returns-then-has-clause-value
returns-then-has-clause-value c =
    let p = c.loop-p.p in
    let loc = loc_of c.args.alphabet.now c.args.a.0 in
    let own : has loc p ≡ true = ap (λ s. has (members s) p) (sym c.loc.ensures) ∙ sym c.has.ensures ∙ c.if-has.true in
    let few = c.loop-p-test.true in
    let first : p ≡ least (λ q. has loc q) c.args.alphabet.now.processes =
    least-is (λ q. has loc q) c.args.alphabet.now.processes p (omega arith) c.loop-p.invariant own in
    c.at.ensures ∙ ap (λ q. reading_at c.args.readings.now q (slice_index c.args.counts.now q)) first

pub unreachable-requires : goal.unreachable-requires
unreachable-requires c =
    let located = c.processes-p-end.ensures.whole.located in
    let q = located.some c.args.a.0 c.requires in
    let below = located.below c.args.a.0 q.0 c.requires q.1 in
    let all = c.loop-p-test.false in
    let none = c.loop-p.invariant q.0 (omega arith) in
    let wrong : true ≡ false = sym q.1 ∙ none in cc
