use Rattle.std.proofs.Common.{◌≤◌, length, sym, ap, ◌∙◌, subst}
use Rattle.za_alpha.specs.Words.{IsWord}
use Rattle.za_alpha.specs.Alphabet.{DistributedAlphabet}
use Rattle.za_dfa.specs.Tables.{CompleteDfa, automaton_of}
use Rattle.za_dfa.proofs.TableLemmas.{total_of_complete}
use Rattle.callers.proofs.FewStates.{minimal-least}
use Rattle.callers.proofs.minimal.states_needed.Goals as goal

pub returns-clause-least : goal.returns-clause-least
returns-clause-least c e whole alphabet same =
    let found = c.in_ok-minimal.ensures.minimal in
    let m = c.in_ok-minimal.minimal in
    let letters = ap (λ (a : DistributedAlphabet). length a.letters) (found.alphabet ∙ sym alphabet) in
    subst (λ n. n ≤ e.states) (sym (c.states.ensures.value ∙ ap (λ (x : CompleteDfa). x.states) c.dfa.ensures.value))
    (minimal-least (automaton_of m.dfa) (automaton_of e) found.access found.minimal found.numbered (total_of_complete e whole) letters
    (λ w hw. same w hw ∙ sym (found.language w (subst (λ k. IsWord k w) (sym letters) hw))))
