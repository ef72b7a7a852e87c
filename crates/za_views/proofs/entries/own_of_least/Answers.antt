use Rattle.std.proofs.Common.{ap, sym}
use Rattle.za_alpha.specs.Procs.{members}
use Rattle.za_views.specs.Private.Events.{entry}
use Rattle.za_views.proofs.LeastPlaces.{least-of}
use Rattle.za_views.proofs.entries.own_of_least.Goals as goal

pub returns : goal.returns
returns c = ap (entry c.args.own.now)
    (sym (least-of (members c.args.takes) c.args.processes c.requires.some.0 c.in_ok-least.field-0 c.requires.some.1 c.requires.some.2 c.in_ok-least.ensures))
