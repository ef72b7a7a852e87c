use Rattle.za_table.specs.Tables.{machine_of}
use Rattle.za_runner.proofs.Refused.{never_refused, all_there}
use Rattle.za_runner.proofs.running.run_hall.Goals as goal

pub unreachable-requires : goal.unreachable-requires
unreachable-requires g c =
    never_refused (machine_of c.args.hall.given).processes c.run_all-back.result.items c.in-Err.field-0.why
    (λ p l. c.run_all-back.ensures.all p (all_there c.args.hall
    (machine_of c.args.hall.given).processes c.args.desks.items c.requires.desks p l))
    c.run_all-back.ensures.over
    c.in-Err.ensures.refused
