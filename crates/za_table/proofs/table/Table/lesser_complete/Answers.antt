use Rattle.std.proofs.Common.{◌≡◌, true, false, sym, subst, ◌∙◌, arith}
use Rattle.za_machine.specs.Machine.{is_complete}
use Rattle.za_table.specs.Tables.{machine_of}
use Rattle.za_table.proofs.Waiting.{complete-next, found-is, found-none}
use Rattle.za_table.proofs.table.Table.lesser_complete.Goals as goal
use Rattle.za_table.proofs.table.Table.lesser_complete.Goals.{else-a-first-via-then-a-first+else-complete, else-a-first-via-else-a-first}

pub returns-in_default-clause-covers : goal.returns-in_default-clause-covers
returns-in_default-clause-covers c = λ a h k.
    let t = c.args.self.now in
    absurd (found-none c.next.result a c.in_default.is (c.next.ensures.value ∙ complete-next (machine_of t.given) t.state a c.args.p h k))

pub returns-then-complete-clause-covers : goal.returns-then-complete-clause-covers
returns-then-complete-clause-covers c = λ a h k.
    let t = c.args.self.now in
    let e = found-is c.next.result c.in-Some.a a c.in-Some.is (c.next.ensures.value ∙ complete-next (machine_of t.given) t.state a c.args.p h k) in omega arith

pub returns-clause-covers : goal.returns-clause-covers
returns-clause-covers c = λ a h k.
    let t = c.args.self.now in
    let e = found-is c.next.result c.in-Some.a a c.in-Some.is (c.next.ensures.value ∙ complete-next (machine_of t.given) t.state a c.args.p h k) in
    elim c.else-a-first.branch [
      | else-a-first-via-then-a-first+else-complete w ↦ absurd (
          let s = w.complete.ensures in
          let f = w.if-complete.false in
          let z : is_complete (machine_of t.given) t.state c.in-Some.a.0 ≡ true = subst (λ x. is_complete (machine_of t.given) t.state x ≡ true) (sym e) h in
          let y : true ≡ false = sym z ∙ sym s ∙ f in cc)
      | else-a-first-via-else-a-first w ↦ let f = w.if-a-first.false in omega arith
    ]
