use Rattle.std.proofs.Common.{sym, ◌∙◌, refl}
use Rattle.std.specs.Prelude.{map, string_bytes}
use Rattle.zielonka.specs.Run.{NoMemory}
use Rattle.zielonka.proofs.RequestLemmas.{top-threads}
use Rattle.zielonka.proofs.RunLemmas.{took-nothing, run-moves}
use Rattle.zielonka.proofs.ShownLemmas.{ended-silent, shown-moves}
use Rattle.zielonka.proofs.run.top.Goals as goal

pub returns-in-Err-clause-ran : goal.returns-in-Err-clause-ran
returns-in-Err-clause-ran g c =
    let none = c.unshown.ensures in
    (ended-silent _ _ _ c.unshown.result 8 none.status none.shown (NoMemory (took-nothing _, λ unread. refl) refl (refl, refl)) refl).ran

pub returns-in-Err-clause-shown : goal.returns-in-Err-clause-shown
returns-in-Err-clause-shown g c =
    let none = c.unshown.ensures in
    (ended-silent _ _ _ c.unshown.result 8 none.status none.shown (NoMemory (took-nothing _, λ unread. refl) refl (refl, refl)) refl).shown

pub returns-in-Ok-true-clause-ran : goal.returns-in-Ok-true-clause-ran
returns-in-Ok-true-clause-ran g c =
    run-moves _ _ _ _ _ (top-threads (map string_bytes c.args.words.now) (sym c.in-Ok-true.ensures ∙ c.in-Ok-true.field-0-test)) c.threaded.ensures.ran

pub returns-in-Ok-true-clause-shown : goal.returns-in-Ok-true-clause-shown
returns-in-Ok-true-clause-shown g c =
    shown-moves _ _ _ _ _ _ (top-threads (map string_bytes c.args.words.now) (sym c.in-Ok-true.ensures ∙ c.in-Ok-true.field-0-test)) c.threaded.ensures.shown
