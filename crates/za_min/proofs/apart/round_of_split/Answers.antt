use Rattle.std.proofs.Common.{sym, ◌∙◌, arith, below_more}
use Rattle.za_min.proofs.ApartSteps.{row-length, row-at, never-apart}
use Rattle.za_min.proofs.apart.round_of_split.Goals as goal

pub of-requires : goal.of-requires
of-requires c = let long = row-length c.args.dfa.now c.args.rounds.now c.requires.rounds c.loop-n.n c.index-rounds-n.result c.loop-n-test.true
    c.index-rounds-n.is in omega arith

pub of-requires-in-loop-n : goal.of-requires-in-loop-n
of-requires-in-loop-n c = let long =
    row-length c.args.dfa.now c.args.rounds.now c.requires.rounds c.loop-n.n c.index-rounds-n.result c.loop-n-test.true c.index-rounds-n.is in omega arith

pub returns-then-of : goal.returns-then-of
returns-then-of c =
    let left = row-at c.args.dfa.now c.args.rounds.now c.requires.rounds c.loop-n.n c.args.q c.of.result c.index-rounds-n.result c.loop-n-test.true
    c.index-rounds-n.is c.of.ensures in
    let right = row-at c.args.dfa.now c.args.rounds.now c.requires.rounds c.loop-n.n c.args.r c.of-in-loop-n.result c.index-rounds-n.result c.loop-n-test.true
    c.index-rounds-n.is c.of-in-loop-n.ensures in (
      c.loop-n-test.true,
      record {
        first = c.requires.first;
        second = c.requires.second;
        apart = λ e. c.if-of.true (left ∙ e ∙ sym right);
        before = λ k e. c.loop-n.invariant k (omega arith);
      },
    )

pub loop-n-preserved : goal.loop-n-preserved
loop-n-preserved c =
    let left = row-at c.args.dfa.now c.args.rounds.now c.requires.rounds c.loop-n.n c.args.q c.of.result c.index-rounds-n.result c.loop-n-test.true
    c.index-rounds-n.is c.of.ensures in
    let right = row-at c.args.dfa.now c.args.rounds.now c.requires.rounds c.loop-n.n c.args.r c.of-in-loop-n.result c.index-rounds-n.result c.loop-n-test.true
    c.index-rounds-n.is c.of-in-loop-n.ensures in
    below_more _ _ c.loop-n.invariant (sym left ∙ c.if-of.false ∙ right)

pub returns : goal.returns
returns c = never-apart c.args.dfa.now c.args.rounds.now c.requires.rounds c.args.q c.args.r c.requires.first c.requires.second
    (λ k l. c.loop-n.invariant k (omega arith))
