use Rattle.std.proofs.Common.{ap, ◌∙◌, Option}
use Rattle.std.specs.Prelude.{unwrap_or}
use Rattle.za_alpha.specs.declared.fault.AlphaFault.{AlphaFault}
use Rattle.za_alpha.specs.declared.fault.AlphaFault.TheVariants.{OutOfMemory}
use Rattle.za_gen.proofs.Whole.{rows-make}
use Rattle.za_gen.proofs.table.alphabet.Goals as goal

pub only_memory-requires : goal.only_memory-requires
only_memory-requires c = c.in-Err.ensures ∙ ap (λ (fault : Option AlphaFault). unwrap_or fault OutOfMemory)
    (rows-make c.in_ok-rows.field-0.items c.in_ok-rows.ensures).0

pub returns-in-Ok : goal.returns-in-Ok
returns-in-Ok c = c.in-Ok.ensures.1 ∙ (rows-make c.in_ok-rows.field-0.items c.in_ok-rows.ensures).1
