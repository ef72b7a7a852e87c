use Rattle.std.proofs.Common.{ℕ, ◌<◌, sym, ap, subst, ◌∙◌}
use Rattle.za_dfa.specs.Tables.{CompleteDfa, automaton_of}
use Rattle.za_dfa.proofs.TableLemmas.{total_of_complete}
use Rattle.za_dfa.proofs.Diamonds.{walk-below}
use Rattle.za_shared.specs.Records.{Records}
use Rattle.za_table.specs.Private.Inside.{state_in}
use Rattle.za_table.proofs.table.Table.read_answer.Goals as goal

pub accepting-accepts-requires : goal.accepting-accepts-requires
accepting-accepts-requires c =
    let t = c.self.inside in
    let d = t.shared.dfa in
    let ok = c.self.invariant.table in
    let total = total_of_complete d ok.records.complete in
    let below : c.verdict-state.result < d.states =
    subst (λ (x : ℕ). x < d.states) (sym (c.verdict-state.ensures.state (state_in t).journal ok.locals))
    (walk-below (automaton_of d) total d.start (state_in t).journal total.starts ok.locals.word) in
    subst (λ (x : ℕ). c.verdict-state.result < x)
    (sym (ap (λ (x : CompleteDfa). x.states) (c.dfa.ensures.value ∙ c.closed.ensures.value ∙ ap (λ (r : Records). r.dfa) c.verdict-state.ensures.rest))) below
