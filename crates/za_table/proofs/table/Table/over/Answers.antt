use Rattle.std.proofs.Common.{arith, length, sym, ◌≡◌, ◌∙◌}
use Rattle.std.proofs.lemmas.Grind.{common_steps}
use Rattle.za_table.specs.Tables.{machine_of}
use Rattle.za_table.proofs.Weaving.{over-if, over-only}
use Rattle.za_table.proofs.table.Table.over.Goals as goal

pub returns-then-first_complete-letters-clause-over : goal.returns-then-first_complete-letters-clause-over
returns-then-first_complete-letters-clause-over c =
    let e : c.first_complete.result ≡ length c.args.self.now.given.dfa.alphabet.letters = c.if-first_complete-letters.true ∙ c.letters.ensures.value in (
      λ h. over-if (machine_of c.args.self.now.given) c.args.self.now.state (sym c.first_complete.ensures.first ∙ e) (c.are_settled.ensures.0 h),
      λ o. c.are_settled.ensures.1 o.each,
    )

pub returns-else-first_complete-letters-clause-over : goal.returns-else-first_complete-letters-clause-over
returns-else-first_complete-letters-clause-over c = (
  λ h. absurd (grind (arith, common_steps)),
  λ o. absurd (c.if-first_complete-letters.false (c.first_complete.ensures.first ∙ over-only (machine_of c.args.self.now.given) c.args.self.now.state o
      ∙ sym c.letters.ensures.value)),
)
