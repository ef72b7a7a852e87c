use Rattle.std.proofs.Common.{ap, ◌∙◌}
use Rattle.std.specs.Prelude.{option_and_then}
use Rattle.za_views.specs.Private.Events.{known}
use Rattle.za_views.proofs.KeptMarks.{kept-marked}
use Rattle.za_views.proofs.MarkedEntries.{first-among, second-is}
use Rattle.za_views.proofs.marks.Marks.second.Goals as goal

pub latest_in-requires-clause-within : goal.latest_in-requires-clause-within
latest_in-requires-clause-within c =
    let marked = kept-marked c.self.invariant c.self.view_is c.as_slice.ensures.value in
    first-among marked c.args.p c.args.q c.latest.result c.latest.ensures

pub returns : goal.returns
returns c =
    let marked = kept-marked c.self.invariant c.self.view_is c.as_slice.ensures.value in
    c.latest_in.ensures ∙ ap (option_and_then (λ e. known c.as_slice.result.now e c.args.r)) c.latest.ensures
    ∙ second-is marked c.args.p c.args.q c.args.r c.requires.third
