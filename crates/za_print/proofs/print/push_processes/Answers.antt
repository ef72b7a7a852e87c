use Rattle.std.proofs.Common.{◌≡◌, ◌++◌, [], ◌∷◌, sym, ◌∙◌, ap, cond, map, arith}
use Rattle.std.proofs.lemmas.List.{append-nil}
use Rattle.za_alpha.specs.Words.{has}
use Rattle.za_alpha.specs.Procs.{members, members_below}
use Rattle.za_alpha.proofs.Members.{members_below-zero, members_below-more}
use Rattle.za_text.specs.Printed.{spaced}
use Rattle.za_text.specs.ProcessNames.{name_of}
use Rattle.za_write.proofs.Lines.{one-more, spaced-more}
use Rattle.za_print.proofs.print.push_processes.Goals as goal

pub loop-p-init : goal.loop-p-init
loop-p-init c = sym (ap (λ ps. c.args.text.now.items ++ spaced (map (name_of c.args.names.now) ps)) (members_below-zero c.args.processes)
    ∙ append-nil c.args.text.now.items)

pub loop-p-preserved : goal.loop-p-preserved
loop-p-preserved c =
    let names = c.args.names.now in
    let s = c.args.processes in
    let p = c.loop-p.p in
    one-more _ _ _ _ _ _ c.loop-p.invariant
    (c.in_ok-push_name_if.ensures ∙ ap (λ b. c.loop-p.text.items ++ cond b (spaced (name_of names p ∷ [])) []) c.has.ensures)
    (ap (λ ps. spaced (map (name_of c.args.names.now) ps)) (members_below-more s p (omega arith))
    ∙ spaced-more (name_of names) (members_below s p) (has (members s) p) p)

pub returns : goal.returns
returns c =
    let all : c.loop-p.p ≡ 16 = omega arith in
    c.loop-p.invariant ∙ ap (λ n. c.args.text.now.items ++ spaced (map (name_of c.args.names.now) (members_below c.args.processes n))) all
