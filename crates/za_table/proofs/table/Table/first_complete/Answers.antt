use Rattle.std.proofs.Common.{length, arith}
use Rattle.za_machine.specs.Machine.{is_complete}
use Rattle.za_table.specs.Tables.{machine_of}
use Rattle.za_table.proofs.Keeping.{whole}
use Rattle.za_table.proofs.Waiting.{least-found}
use Rattle.za_table.proofs.table.Table.first_complete.Goals as goal

pub returns-clause-first : goal.returns-clause-first
returns-clause-first c =
    let t = c.args.self.now in
    let e = c.processes-p-end.ensures.value in
    let l = c.loop-p-test.false in
    least-found (is_complete (machine_of t.given) t.state) (length t.given.dfa.alphabet.letters) c.loop-p.first c.loop-p.invariant.small
    c.loop-p.invariant.found (λ k s h.
    let located = (whole t c.processes-p-end.ensures.table).located in
    let who = located.some k s in
    let b = located.below k who.0 s who.1 in
    c.loop-p.invariant.covers k who.0 (omega arith) h who.1)
