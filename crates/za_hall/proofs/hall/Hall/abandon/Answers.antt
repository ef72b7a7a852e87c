use Rattle.std.proofs.Common.{ap, ◌∙◌, refl}
use Rattle.za_hall.specs.Halls.{HallState}
use Rattle.za_hall.proofs.Whole.{whole, least, some_desk, all_told, told_still}
use Rattle.za_hall.proofs.hall.Hall.abandon.Goals as goal

pub returns-in-Some-clause-refused : goal.returns-in-Some-clause-refused
returns-in-Some-clause-refused c = let h = c.self.inside.parts in
    least h.processes c.args.self.given.dfa.alphabet.processes (h.of_job.0 ∙ ap (λ (x : HallState). x.given.dfa.alphabet.processes) c.self.view_is)
    c.deref.result.now c.args.desks.items c.deref.ensures.value c.in-Some.process c.in-Some.ensures

pub gather-table-requires-clause-all : goal.gather-table-requires-clause-all
gather-table-requires-clause-all c = let h = c.self.inside.parts in
    whole h.processes h.board.shared.key.value.given.dfa.alphabet.processes h.of_job.0 c.deref.result.now c.args.desks.items c.deref.ensures.value
    c.in_default.ensures

pub gather-table-requires-clause-some : goal.gather-table-requires-clause-some
gather-table-requires-clause-some c = let h = c.self.inside.parts in
    some_desk h.processes c.args.desks.items h.of_job.1
    (whole h.processes h.processes refl c.deref.result.now c.args.desks.items c.deref.ensures.value c.in_default.ensures)

pub returns-clause-told : goal.returns-clause-told
returns-clause-told c k d lt = told_still c.gather-table.result c.free_letters.new.table _ c.free_letters.ensures.rest.0 c.free_letters.ensures.rest.1
    (all_told c.gather-table.result c.args.desks.items c.gather-table.ensures.numbers c.gather-table.ensures.notes k d lt)

pub returns-clause-whole : goal.returns-clause-whole
returns-clause-whole c = let h = c.self.inside.parts in
    whole h.processes c.args.self.given.dfa.alphabet.processes (h.of_job.0 ∙ ap (λ (x : HallState). x.given.dfa.alphabet.processes) c.self.view_is)
    c.deref.result.now c.args.desks.items c.deref.ensures.value c.in_default.ensures
