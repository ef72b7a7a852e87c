use Rattle.std.proofs.Common.{ℕ, List, length, sym, ap, subst, ◌∙◌, refl}
use Rattle.za_alpha.specs.Words.{IsWord}
use Rattle.za_alpha.specs.Alphabet.{DistributedAlphabet, loc_of}
use Rattle.za_dfa.specs.Automata.{IsTraceClosed}
use Rattle.za_dfa.specs.Tables.{CompleteDfa, automaton_of}
use Rattle.za_min.specs.Minimal.{IsMinimalOf}
use Rattle.za_closure.specs.Breaks.{AreBreakWords, IsLeastBreak, left_word}
use Rattle.za_lang.specs.Answers.{data_of}
use Rattle.za_report.specs.Texts.{open_text}
use Rattle.za_query.proofs.BreakWords.{left-is-word, right-is-word}
use Rattle.za_query.proofs.judging.judge.Goals as goal
use Rattle.za_query.proofs.judging.judge.Goals.{After-alphabet}

pub returns-in-Ok : goal.returns-in-Ok
returns-in-Ok c = record {
  minimal = subst (λ (d : CompleteDfa). IsMinimalOf c.in-Ok.closed d) c.in_ok-dfa.ensures c.in-Ok.ensures.minimal;
  closed = subst (λ (d : CompleteDfa). IsTraceClosed (loc_of d.alphabet) (automaton_of d)) c.in_ok-dfa.ensures c.in-Ok.ensures.closed;
}

-- the two words are those of the least break
cause-is : (c : After-alphabet) → AreBreakWords c.in_ok-dfa.dfa c.in-NotClosed.left c.in-NotClosed.right
cause-is c = rw c.in-NotClosed.is at c.in-Err.ensures.refused

-- and words over the alphabet of the job
over-alphabet : (c : After-alphabet) (w : List ℕ) → IsWord (length c.in_ok-dfa.dfa.alphabet.letters) w → IsWord (length c.alphabet.result.now.letters) w
over-alphabet c w h =
    subst (λ (a : DistributedAlphabet). IsWord (length a.letters) w) (ap (λ (d : CompleteDfa). d.alphabet) c.in_ok-dfa.ensures ∙ sym c.alphabet.ensures) h

pub open_text-requires-clause-left : goal.open_text-requires-clause-left
open_text-requires-clause-left c =
    let k = (goal.at.open_text-requires-clause-left c).After-alphabet in
    let cause = cause-is k in
    over-alphabet k c.in-NotClosed.left
    (subst (λ w. IsWord (length c.in_ok-dfa.dfa.alphabet.letters) w) (sym cause.2)
    (left-is-word (loc_of c.in_ok-dfa.dfa.alphabet) (automaton_of c.in_ok-dfa.dfa) cause.0 cause.1.is))

pub open_text-requires-clause-right : goal.open_text-requires-clause-right
open_text-requires-clause-right c =
    let k = (goal.at.open_text-requires-clause-right c).After-alphabet in
    let cause = cause-is k in
    over-alphabet k c.in-NotClosed.right
    (subst (λ w. IsWord (length c.in_ok-dfa.dfa.alphabet.letters) w) (sym cause.3)
    (right-is-word (loc_of c.in_ok-dfa.dfa.alphabet) (automaton_of c.in_ok-dfa.dfa) cause.0 cause.1.is))

pub returns-in-NotClosed : goal.returns-in-NotClosed
returns-in-NotClosed c =
    let job = data_of c.args.job.now in
    let cause = cause-is (goal.at.returns-in-NotClosed c).After-alphabet in
    let least = subst (λ (d : CompleteDfa). IsLeastBreak (loc_of d.alphabet) (automaton_of d) cause.0) c.in_ok-dfa.ensures cause.1 in
    let text = c.in_ok-open_text-in-NotClosed.ensures
    ∙ ap (λ (a : DistributedAlphabet). open_text a c.in-NotClosed.left c.in-NotClosed.right) c.alphabet.ensures
    ∙ ap (λ w. open_text job.lang.alphabet w c.in-NotClosed.right) cause.2 ∙ ap (λ w. open_text job.lang.alphabet (left_word cause.0) w) cause.3 in
    (cause.0, least, refl, text)
