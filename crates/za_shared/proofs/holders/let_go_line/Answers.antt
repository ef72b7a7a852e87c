use Rattle.za_shared.specs.Private.Steps.{one, named_by_line, named_before}
use Rattle.za_shared.proofs.Named.{fewer-then, named-all}
use Rattle.za_shared.proofs.holders.let_go_line.Goals as goal

pub returns-clause-fewer : goal.returns-clause-fewer
returns-clause-fewer c = fewer-then c.args.shelf.now c.let_go_inputs.new.shelf c.let_go.new.shelf c.args.spares.now.items c.let_go_inputs.new.spares.items
    c.let_go.new.spares.items
    (named_before c.args.inputs.now c.args.output (Rattle.std.proofs.Common.length c.args.inputs.now)) (one c.args.output)
    (named_by_line c.args.inputs.now c.args.output)
    c.let_go_inputs.ensures.fewer c.let_go.ensures.fewer (named-all c.args.inputs.now c.args.output)
