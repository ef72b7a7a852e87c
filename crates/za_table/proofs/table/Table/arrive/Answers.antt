use Rattle.std.proofs.Common.{◌≡◌, ◌<◌, ◌&&◌, ◌==◌, not, ℕ, Some, Option, true, length, slice_set, sym, ap, subst, ◌∙◌, arith, length-set, refl}
use Rattle.std.specs.Option.{option_map}
use Rattle.std.proofs.lemmas.List.{get_or_default}
use Rattle.za_alpha.specs.declared.word.Letter.{Letter}
use Rattle.za_alpha.specs.declared.procs.Procs.{Procs}
use Rattle.za_alpha.specs.Words.{has}
use Rattle.za_alpha.specs.Procs.{members, no_process}
use Rattle.za_machine.specs.Machine.{IsAllowed, Arrive, arrive, next}
use Rattle.za_table.specs.Tables.{TableState, machine_of}
use Rattle.za_table.specs.Answers.{AreMissing}
use Rattle.za_table.specs.Private.Inside.{given_in, state_in, table_in}
use Rattle.za_table.specs.Private.Steps.{AreAllMissing}
use Rattle.za_table.proofs.Keeping.{arrives}
use Rattle.za_table.proofs.Missing.{missing-arrived, arrived-answer}
use Rattle.za_table.proofs.Progressing.{with-others}
use Rattle.za_table.proofs.Waiting.{next-own}
use Rattle.za_table.proofs.table.Table.arrive.Goals as goal
use Rattle.za_table.proofs.table.Table.arrive.Goals.{After-without-missing}

module _ (c : After-without-missing) where
  abbrev a : ℕ
  a = c.in-Some.letter.0

  allowed : IsAllowed (machine_of (given_in c.self.inside)) (state_in c.self.inside) (Arrive c.args.p)
  allowed = subst (λ (x : TableState). IsAllowed (machine_of x.given) x.state (Arrive c.args.p)) (sym c.self.view_is) c.requires

  comes : next (machine_of (given_in c.self.inside)) (state_in c.self.inside).journal c.args.p ≡ Some a
  comes = subst (λ (x : TableState). next (machine_of x.given) x.state.journal c.args.p ≡ Some a) (sym c.self.view_is)
      (sym c.next.ensures.value ∙ ap (option_map (λ (l : Letter). l.0)) c.in-Some.is)

  small : a < length c.self.inside.shared.dfa.alphabet.letters
  small = (next-own (table_in c.self.inside) c.self.invariant.table c.args.p a allowed.0 comes).letter

  at : c.index.result.now ≡ Rattle.std.specs.Prelude.slice_index_or c.self.inside.missing.items a no_process
  at = c.index.ensures ∙ get_or_default c.self.inside.missing.items a c.index.result.now no_process
      (let s = c.self.invariant.missing.size in let l = small in omega arith)

  all : AreAllMissing (machine_of (given_in c.self.inside)) (arrive c.args.p (state_in c.self.inside))
      (slice_set c.self.inside.missing.items a c.without-missing.result)
  all =
      let size = c.self.invariant.progress.arrived_size in
      let inside = allowed.0 in
      missing-arrived (machine_of (given_in c.self.inside)) (state_in c.self.inside) c.args.p a comes allowed.1 (omega arith) c.self.inside.missing.items
      c.self.invariant.missing c.without-missing.result
      (λ q. c.without-missing.ensures q ∙ ap (λ (s : Procs). has (members s) q && not (q == c.args.p)) at) small

  here : AreMissing (machine_of (given_in c.self.inside)) (arrive c.args.p (state_in c.self.inside)) a c.without-missing.result
  here = subst (AreMissing (machine_of (given_in c.self.inside)) (arrive c.args.p (state_in c.self.inside)) a)
      (Rattle.std.proofs.Common.get_or-set_same c.self.inside.missing.items a c.without-missing.result no_process
      (let s = c.self.invariant.missing.size in let l = small in omega arith))
      (all.each a small)

pub invariant_of-self : goal.invariant_of-self
invariant_of-self c =
    let k = (goal.at.invariant_of-self c).After-without-missing in
    let t = c.self.inside in
    let ok = c.self.invariant in
    record {
      table = arrives (table_in t) ok.table c.args.p (allowed k);
      progress = with-others (machine_of (given_in t)) t.progress (Rattle.std.specs.Vec.with_item t.progress.arrived c.args.p true) t.progress.ended ok.progress
          (length-set t.progress.arrived.items c.args.p true ∙ ok.progress.arrived_size) ok.progress.ended_size;
      missing = all k;
    }

pub returns-clause-answer : goal.returns-clause-answer
returns-clause-answer c =
    let k = (goal.at.returns-clause-answer c).After-without-missing in
    arrived-answer (machine_of (given_in c.self.inside)) (arrive c.args.p (state_in c.self.inside)) c.args.p c.in-Some.letter c.without-missing.result
    c.arrival_at.result
    (comes k) (here k) c.arrival_at.ensures.complete c.arrival_at.ensures.short
