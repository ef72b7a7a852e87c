use Rattle.std.proofs.Common.{ℕ, List, refl, sym, subst}
use Rattle.za_freeze.specs.Thawing.{IsRefusedFor}
use Rattle.za_freeze.specs.declared.thawing.ThawFault.TheVariants.{NotClosed}
use Rattle.zielonka.specs.declared.request.Command.TheVariants.{Thaw}
use Rattle.zielonka.specs.Output.{IsOutput}
use Rattle.zielonka.proofs.JudgedLemmas.{refused-frozen, open-frozen}
use Rattle.zielonka.proofs.judging.judge_frozen.Goals as goal

pub returns-in-Ok : goal.returns-in-Ok
returns-in-Ok c = (refl, record { job = c.in-Ok.ensures.job; thawed = c.in-Ok.ensures.thawed })

pub returns-in_ok-refused_text-in-Text : goal.returns-in_ok-refused_text-in-Text
returns-in_ok-refused_text-in-Text c =
    let out = refused-frozen c.args.bytes.now c.in-Text.fault (rw c.in-Text.is at c.in-Err.ensures.refused) in
    (subst (λ (t : List ℕ). IsOutput Thaw c.args.bytes.now 4 t) (sym c.in_ok-refused_text-in-Text.ensures) out.0, out.1)

pub returns-in_ok-open_rest-in-NotClosed : goal.returns-in_ok-open_rest-in-NotClosed
returns-in_ok-open_rest-in-NotClosed c =
    let bytes = c.args.bytes.now in
    let said = c.in_ok-open_rest-in-NotClosed.field-0 in
    let refused : IsRefusedFor bytes (NotClosed c.in-NotClosed.left c.in-NotClosed.right) = rw c.in-NotClosed.is at c.in-Err.ensures.refused in
    let out = open-frozen bytes c.in-NotClosed.left c.in-NotClosed.right refused.0 refused.1 in (
      subst (λ (s : ℕ). IsOutput Thaw bytes s said.text.items) (sym c.in_ok-open_rest-in-NotClosed.ensures.status)
          (subst (λ (t : List ℕ). IsOutput Thaw bytes 5 t) (sym c.in_ok-open_rest-in-NotClosed.ensures.text) out.0),
      out.1,
    )
