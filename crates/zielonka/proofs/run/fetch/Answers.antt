use Rattle.std.proofs.Common.{refl}
use Rattle.zielonka.specs.Output.{too_long_text}
use Rattle.zielonka.specs.Run.{TooLong, ReadFault, NoMemory}
use Rattle.zielonka.proofs.RunLemmas.{reads-unread}
use Rattle.zielonka.proofs.ShownLemmas.{none-by-length, ended-silent, ended-telling}
use Rattle.zielonka.proofs.run.fetch.Goals as goal

pub returns-in-Ok : goal.returns-in-Ok
returns-in-Ok g c asked reads = (c.in-Ok.ensures, (refl, refl))

pub returns-in-Err-Fault : goal.returns-in-Err-Fault
returns-in-Err-Fault g c asked reads =
    let read = rw c.in-Err-Fault.field-0-is at c.in-Err-Fault.ensures in
    ended-silent asked _ _ _ 6 c.unshown.ensures.status c.unshown.ensures.shown (ReadFault reads read.0 read.1 (refl, refl)) refl

pub returns-in-Err-OutOfMemory : goal.returns-in-Err-OutOfMemory
returns-in-Err-OutOfMemory g c asked reads =
    let read = rw c.in-Err-OutOfMemory.field-0-is at c.in-Err-OutOfMemory.ensures in
    let none = c.unshown-in-Err-OutOfMemory.ensures in
    ended-silent asked _ _ _ 8 none.status none.shown (NoMemory (read.0, λ unread. reads-unread asked reads unread) read.1 (refl, refl)) refl

pub returns-in-Err-TooLong : goal.returns-in-Err-TooLong
returns-in-Err-TooLong g c asked reads =
    let many = rw c.in-Err-TooLong.field-0-is at c.in-Err-TooLong.ensures in
    ended-telling asked _ _ _ 9 too_long_text (TooLong reads many) c.tell.ensures.said c.tell.ensures.shown (none-by-length asked _ _ _ many)
