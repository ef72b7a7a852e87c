use Rattle.std.proofs.Common.{◌∙◌, ap, sym, subst}
use Rattle.za_lang.specs.Answers.{data_of}
use Rattle.za_lang.specs.Namings.{LangData}
use Rattle.za_lang.specs.Tests.{accept_line_fault}
use Rattle.za_lang.specs.Gathering.{more_said, Tells}
use Rattle.za_lang.specs.declared.order.Head.TheVariants as head
use Rattle.za_lang.proofs.Telling.{accept_told}
use Rattle.za_lang.proofs.gather.take_accept.Goals as goal

pub returns-clause-taken : goal.returns-clause-taken
returns-clause-taken c s h =
    let job = data_of c.args.job.now in (
      ap (λ n. accept_line_fault n c.args.words) (sym h.states) ∙ c.in_ok-accept_states.ensures.taken.0,
      subst (λ (lang : LangData). Tells (record job { naming = lang.naming; lang = lang.table }) (more_said s head.Accept c.args.words))
          (sym c.in_ok-accept_states.ensures.taken.1) (accept_told job s c.args.words h),
    )
