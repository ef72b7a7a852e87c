use Rattle.std.proofs.Common.{sym, subst}
use Rattle.za_alpha.specs.Alphabet.{loc_of}
use Rattle.za_gossip.specs.Rows.{AreRowsAfter}
use Rattle.knowledge_tests.proofs.gossip.newest_after.Goals as goal

pub newest-requires-clause-rows : goal.newest-requires-clause-rows
newest-requires-clause-rows c = (
  c.args.word.now,
  subst (λ rows. AreRowsAfter c.args.alphabet.now c.args.word.now (loc_of c.args.alphabet.now c.args.a.0) rows)
      (sym c.as_slice.ensures.value) c.in_ok-inputs.ensures,
)
