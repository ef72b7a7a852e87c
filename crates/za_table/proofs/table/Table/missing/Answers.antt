use Rattle.std.proofs.Common.{◌<◌, sym, subst, ◌∙◌, length, arith}
use Rattle.std.proofs.lemmas.List.{get_or_default}
use Rattle.za_alpha.specs.Procs.{members, no_process}
use Rattle.za_alpha.specs.Alphabet.{loc_of}
use Rattle.za_table.specs.Tables.{TableState, machine_of}
use Rattle.za_table.specs.Answers.{waits_at, AreMissing}
use Rattle.za_table.specs.Private.Inside.{given_in, state_in}
use Rattle.za_table.proofs.Complete.{none-missing}
use Rattle.za_table.proofs.table.Table.missing.Goals as goal

pub returns-clause-none : goal.returns-clause-none
returns-clause-none c =
    let t = c.args.self.now in
    let i = c.self.inside in
    let a = c.args.a.0 in
    let la : a < length i.shared.dfa.alphabet.letters = subst (λ (x : TableState). a < length x.given.dfa.alphabet.letters) (sym c.self.view_is) c.requires in
    let size = c.self.invariant.missing.size in
    let at = c.index.ensures ∙ get_or_default i.missing.items a c.index.result.now no_process (omega arith) in
    none-missing (waits_at (machine_of t.given) t.state a) (loc_of t.given.dfa.alphabet a) (members c.index.result.now)
    (subst (λ (x : TableState). AreMissing (machine_of x.given) x.state a c.index.result.now) c.self.view_is
    (subst (AreMissing (machine_of (given_in i)) (state_in i) a) (sym at) (c.self.invariant.missing.each a la)))
