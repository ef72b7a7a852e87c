use Rattle.std.proofs.Common.{◌≡◌, ◌≤◌, true, false, List, subst, ap, ◌∙◌, refl}
use Rattle.std.specs.List.{All}
use Rattle.za_hall.specs.Halls.{HallState, DeskState, IsWaiting}
use Rattle.za_hall.proofs.Whole.{whole, least, some_desk, any_over}
use Rattle.za_hall.proofs.hall.Hall.close.Goals as goal

pub returns-in-Some-clause-refused : goal.returns-in-Some-clause-refused
returns-in-Some-clause-refused c = let h = c.self.inside.parts in
    least h.processes c.args.self.given.dfa.alphabet.processes (h.of_job.0 ∙ ap (λ (x : HallState). x.given.dfa.alphabet.processes) c.self.view_is)
    c.deref.result.now c.args.desks.items c.deref.ensures.value c.in-Some.process c.in-Some.ensures

pub returns-in-Some-least_waiting-clause-refused : goal.returns-in-Some-least_waiting-clause-refused
returns-in-Some-least_waiting-clause-refused c = let h = c.self.inside.parts in let p = c.in-Some-least_waiting.process in
    let P : List DeskState → Type 0 = λ ds. IsWaiting ds p × All (λ d. d.view.over ≡ false → p ≤ d.number) ds in
    let s = subst P c.deref-2.ensures.value c.in-Some-least_waiting.ensures in (
      whole h.processes c.args.self.given.dfa.alphabet.processes (h.of_job.0 ∙ ap (λ (x : HallState). x.given.dfa.alphabet.processes) c.self.view_is)
          c.deref.result.now c.args.desks.items c.deref.ensures.value c.in_default.ensures,
      s.0,
      s.1,
    )

pub gather-requires-clause-all : goal.gather-requires-clause-all
gather-requires-clause-all c = let h = c.self.inside.parts in
    whole h.processes h.board.shared.key.value.given.dfa.alphabet.processes h.of_job.0 c.deref.result.now c.args.desks.items c.deref.ensures.value
    c.in_default.ensures

pub gather-requires-clause-some : goal.gather-requires-clause-some
gather-requires-clause-some c = let h = c.self.inside.parts in
    some_desk h.processes c.args.desks.items h.of_job.1
    (whole h.processes h.processes refl c.deref.result.now c.args.desks.items c.deref.ensures.value c.in_default.ensures)

pub into_ended-requires : goal.into_ended-requires
into_ended-requires c = let h = c.self.inside.parts in
    c.gather.ensures.over (any_over h.processes c.args.desks.items h.of_job.1
    (whole h.processes h.processes refl c.deref.result.now c.args.desks.items c.deref.ensures.value c.in_default.ensures)
    (subst (λ (ds : List DeskState). All (λ d. d.view.over ≡ true) ds) c.deref-2.ensures.value c.in_default-least_waiting.ensures))

pub returns-clause-whole : goal.returns-clause-whole
returns-clause-whole c = let h = c.self.inside.parts in (
  whole h.processes c.args.self.given.dfa.alphabet.processes (h.of_job.0 ∙ ap (λ (x : HallState). x.given.dfa.alphabet.processes) c.self.view_is)
      c.deref.result.now c.args.desks.items c.deref.ensures.value c.in_default.ensures,
  subst (λ (ds : List DeskState). All (λ d. d.view.over ≡ true) ds) c.deref-2.ensures.value c.in_default-least_waiting.ensures,
)
