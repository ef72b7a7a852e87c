use Rattle.std.proofs.Common.{ap, sym, subst, ◌≡◌, ℕ, ◌∙◌, List}
use Rattle.za_alpha.specs.Procs.{members}
use Rattle.za_alpha.specs.Alphabet.{loc_of}
use Rattle.za_local.specs.Locals.{AreLocalsAfter}
use Rattle.za_machine.specs.Hands.{hand, IsInHand}
use Rattle.za_table.specs.Tables.{TableState, machine_of}
use Rattle.za_table.specs.Private.Inside.{table_in, state_in}
use Rattle.za_table.proofs.Keeping.{takes_up}
use Rattle.za_table.proofs.table.Table.take_up.Goals as goal
use Rattle.za_table.proofs.table.Table.take_up.Goals.{After-participants-participants}

own : (c : After-participants-participants) → IsInHand (machine_of (table_in c.self.inside).given) (state_in c.self.inside) c.args.a.0 c.args.by
own c = subst (λ (x : TableState). IsInHand (machine_of x.given) x.state c.args.a.0 c.args.by) (sym c.self.view_is) c.requires.own

participants : (c : After-participants-participants) → members c.participants-participants.result ≡ loc_of c.self.inside.shared.dfa.alphabet c.args.a.0
participants c = c.participants-participants.ensures ∙ ap (λ (x : TableState). loc_of x.given.dfa.alphabet c.args.a.0) (sym c.self.view_is)

pub invariant_of-self : goal.invariant_of-self
invariant_of-self c =
    let k = (goal.at.invariant_of-self c).After-participants-participants in
    let ok = c.self.invariant in
    record {
      table = takes_up (table_in c.self.inside) ok.table c.args.a.0 c.args.by (own k)
          (ap (λ (x : TableState). hand x.hands c.args.a.0) c.self.view_is ∙ c.requires.free);
      progress = ok.progress;
      missing = ok.missing;
    }

pub returns-clause-locals : goal.returns-clause-locals
returns-clause-locals c =
    let k = (goal.at.returns-clause-locals c).After-participants-participants in
    let t = c.self.inside in
    subst (λ (x : TableState). AreLocalsAfter x.given.dfa x.state.journal (loc_of x.given.dfa.alphabet c.args.a.0) c.gather_into.new.bench.locals)
    c.self.view_is
    (subst (λ (ps : List ℕ). AreLocalsAfter t.shared.dfa (state_in t).journal ps c.gather_into.new.bench.locals) (participants k)
    (c.gather_into.ensures.after (state_in t).journal c.self.invariant.table.locals))
