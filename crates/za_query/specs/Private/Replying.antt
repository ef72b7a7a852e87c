-- What is made before there is a reply.
use Rattle.std.specs.Prelude.{◌≡◌}
use Rattle.za_lang.specs.declared.fault.JobFault.{JobFault}
use Rattle.za_lang.specs.declared.fault.JobFault.TheVariants as job_fault
use Rattle.za_report.specs.Texts.{refused_text}
use Rattle.za_query.specs.declared.query.Said.{Said}

-- the refusal of a text; that of memory is none
abbrev pub IsRefusalOf : JobFault → Said → Type 0
IsRefusalOf (job_fault.Text fault) said = (said.status ≡ 4) × (said.text.items ≡ refused_text fault)
IsRefusalOf job_fault.OutOfMemory said = ⊥
