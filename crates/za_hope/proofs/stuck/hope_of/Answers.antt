use Rattle.std.proofs.Common.{Some, sym, subst}
use Rattle.za_dfa.specs.Tables.{automaton_of}
use Rattle.za_min.specs.Live.{IsHope}
use Rattle.za_script.specs.declared.answer.Answer.{Answer}
use Rattle.za_hope.specs.Hopes.{GoesWith}
use Rattle.za_hope.proofs.stuck.hope_of.Goals as goal

pub returns-in_ok-live-in-Stuck : goal.returns-in_ok-live-in-Stuck
returns-in_ok-live-in-Stuck c =
    let d = automaton_of c.args.dfa.now in
    subst (λ (a : Answer). GoesWith (IsHope d c.args.q) a (Some c.hope.result)) (sym c.in-Stuck.is)
    (c.hope.ensures d c.in_ok-live-in-Stuck.ensures)
