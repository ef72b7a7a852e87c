use Rattle.std.proofs.Common.{◌≡◌, ◌++◌, length, sym, ap, subst, ◌∙◌}
use Rattle.za_alpha.specs.Words.{IsWord}
use Rattle.za_dfa.specs.Tables.{CompleteDfa}
use Rattle.za_local.specs.Locals.{local_after}
use Rattle.za_machine.proofs.States.{reached_fits}
use Rattle.za_table.specs.Tables.{machine_of}
use Rattle.za_text.specs.Printed.{line}
use Rattle.za_write.proofs.Lines.{text_of-more}
use Rattle.za_report.specs.LocalStates.{local_line}
use Rattle.za_report.proofs.locals.locals_text.Goals as goal
use Rattle.za_report.proofs.locals.locals_text.Goals.{After-local}

word : (c : After-local) → IsWord (length c.args.closed.now.alphabet.letters) c.args.ended.now.state.journal
word c =
    let w = c.args.ended.now.state.journal in
    let fits = reached_fits (machine_of c.args.ended.now.given) c.args.ended.now.state c.local.ensures.over.reached in
    subst (λ (e : CompleteDfa). IsWord (length e.alphabet.letters) w) (sym c.requires) fits.word

-- the local state of the process after the journal
local-is : (c : After-local) → c.local.result.now ≡ local_after c.args.closed.now c.args.ended.now.state.journal c.loop-p.p
local-is c = c.local.ensures.value ∙ ap (λ (d : CompleteDfa). local_after d c.args.ended.now.state.journal c.loop-p.p) (sym c.requires)

pub push_local-requires : goal.push_local-requires
push_local-requires c = (c.args.ended.now.state.journal, word c, local-is c)

pub loop-p-preserved : goal.loop-p-preserved
loop-p-preserved c =
    let at = goal.at.loop-p-preserved c in
    let k = at.After-local in
    let w = c.args.ended.now.state.journal in
    let line_of = local_line c.args.closed.now w in
    c.in_ok-push_local.ensures w (word k) (local-is k) ∙ ap (λ t. t ++ line (line_of c.loop-p.p)) c.loop-p.invariant
    ∙ sym (text_of-more line_of c.loop-p.p)
