use Rattle.std.proofs.Common.{◌∙◌}
use Rattle.za_views.proofs.KeptMarks.{kept-marked}
use Rattle.za_views.proofs.MarkedEntries.{own-among, first-is}
use Rattle.za_views.proofs.marks.Marks.latest.Goals as goal

pub latest_in-requires-clause-within : goal.latest_in-requires-clause-within
latest_in-requires-clause-within c =
    let marked = kept-marked c.self.invariant c.self.view_is c.as_slice.ensures.value in
    own-among marked c.args.p c.requires.first

pub returns : goal.returns
returns c =
    let marked = kept-marked c.self.invariant c.self.view_is c.as_slice.ensures.value in
    c.latest_in.ensures ∙ first-is marked c.args.p c.args.q c.requires.first c.requires.second
