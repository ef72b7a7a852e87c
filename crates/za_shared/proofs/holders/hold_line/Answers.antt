use Rattle.za_shared.specs.Private.Steps.{one, named_by_line, named_before}
use Rattle.za_shared.proofs.Named.{more-then, named-all}
use Rattle.za_shared.proofs.holders.hold_line.Goals as goal

pub returns : goal.returns
returns c = more-then c.args.shelf.now c.hold_inputs.new.shelf c.hold.new.shelf
    (named_before c.args.inputs.now c.args.output (Rattle.std.proofs.Common.length c.args.inputs.now)) (one c.args.output)
    (named_by_line c.args.inputs.now c.args.output)
    c.hold_inputs.ensures c.hold.ensures (named-all c.args.inputs.now c.args.output)
