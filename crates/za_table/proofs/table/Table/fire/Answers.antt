use Rattle.std.proofs.Common.{◌≡◌, true, sym, ap, subst, ◌∙◌, arith}
use Rattle.za_alpha.specs.Words.{has}
use Rattle.za_alpha.specs.Procs.{members}
use Rattle.za_alpha.specs.Alphabet.{loc_of}
use Rattle.za_dfa.specs.Tables.{CompleteDfa}
use Rattle.za_machine.specs.Machine.{IsAllowed, Fire}
use Rattle.za_machine.specs.Hands.{hand}
use Rattle.za_table.specs.Tables.{TableState, machine_of}
use Rattle.za_table.specs.Private.Inside.{given_in, state_in, table_in}
use Rattle.za_table.proofs.Keeping.{happens}
use Rattle.za_table.proofs.Firing.{room, counts-le, table-after, progress-after, missing-after}
use Rattle.za_table.proofs.table.Table.fire.Goals as goal
use Rattle.za_table.proofs.table.Table.fire.Goals.{After-participants-participants}

allowed : (c : After-participants-participants) → IsAllowed (machine_of (given_in c.self.inside)) (state_in c.self.inside) (Fire c.args.a.0)
allowed c = subst (λ (x : TableState). IsAllowed (machine_of x.given) x.state (Fire c.args.a.0)) (sym c.self.view_is) c.requires.allowed

participants : (c : After-participants-participants) → members c.participants-participants.result ≡ loc_of c.self.inside.shared.dfa.alphabet c.args.a.0
participants c = c.participants-participants.ensures ∙ ap (λ (x : TableState). loc_of x.given.dfa.alphabet c.args.a.0) (sym c.self.view_is)

pub append-requires-clause-journal : goal.append-requires-clause-journal
append-requires-clause-journal c =
    let k = (goal.at.append-requires-clause-journal c).After-participants-participants in
    let r = room c.self.inside c.self.invariant c.args.a.0 (allowed k) in
    let e = c.self.invariant.progress.journal_room in omega arith

pub append-requires-clause-labels : goal.append-requires-clause-labels
append-requires-clause-labels c =
    let k = (goal.at.append-requires-clause-labels c).After-participants-participants in
    let r = room c.self.inside c.self.invariant c.args.a.0 (allowed k) in
    let s = c.self.invariant.progress.labels_size in
    let e = c.self.invariant.progress.labels_room in omega arith

pub append-requires-clause-counts : goal.append-requires-clause-counts
append-requires-clause-counts c = λ p m.
    let k = (goal.at.append-requires-clause-counts c).After-participants-participants in
    let mine = subst (λ (d : CompleteDfa). has (loc_of d.alphabet c.args.a.0) p ≡ true) c.fire.ensures.fired.dfa m in
    let l = counts-le c.self.inside c.self.invariant c.args.a.0 (allowed k) p mine in
    let e = c.self.invariant.progress.journal_room in
    let s = c.self.inside.progress.journal.small in omega arith

pub invariant_of-self : goal.invariant_of-self
invariant_of-self c =
    let k = (goal.at.invariant_of-self c).After-participants-participants in
    let t = c.self.inside in
    let ok = c.self.invariant in
    let a = c.args.a.0 in
    let moved = happens (table_in t) ok.table (Fire a) (allowed k) (ap (λ (x : TableState). hand x.hands a) c.self.view_is ∙ c.requires.free) in
    record {
      table = table-after t ok a (allowed k) t.hands.items moved c.fire.new.self c.append.new.progress c.fire.ensures.fired c.fire.ensures.records
          c.append.ensures.appended;
      progress = progress-after t ok a (allowed k) t.hands.items moved c.fire.new.self c.append.new.progress c.fire.ensures.fired c.fire.ensures.records
          c.append.ensures.appended;
      missing = missing-after t ok a (allowed k) t.hands.items moved c.fire.new.self c.append.new.progress c.fire.ensures.fired c.fire.ensures.records
          c.append.ensures.appended
          c.participants-participants.result (participants k);
    }
