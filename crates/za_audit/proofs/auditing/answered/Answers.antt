use Rattle.std.proofs.Common.{◌≡◌, ℕ, ap, subst, ◌∙◌, sym}
use Rattle.za_dfa.specs.Automata.{walk, is_accepted}
use Rattle.za_dfa.specs.Tables.{CompleteDfa, automaton_of, step_of, accepts_at}
use Rattle.za_min.specs.Live.{IsHope}
use Rattle.za_script.specs.declared.answer.Answer.{Answer}
use Rattle.za_hope.specs.Hopes.{GoesWith}
use Rattle.za_lang.specs.Answers.{data_of}
use Rattle.za_claim.specs.Claims.{event_letters}
use Rattle.za_hope.specs.Jobs.{HasHope}
use Rattle.za_audit.specs.Verdicts.{automaton, IsAnswerOf}
use Rattle.za_audit.proofs.Running.{answer-from, hope-from}
use Rattle.za_audit.proofs.auditing.answered.Goals as goal
use Rattle.za_audit.proofs.auditing.answered.Goals.{After-answer_of-defined}

-- the state is the one after the events' letters
state-is : (c : After-answer_of-defined) →
    c.state_after-state.result ≡ walk (step_of c.in_ok-dfa.dfa) c.in_ok-dfa.dfa.start (event_letters c.args.claim.now.events)
state-is c =
    let d = c.in_ok-dfa.dfa in c.state_after-state.ensures.value ∙ ap (λ es. walk (step_of d) d.start (event_letters es)) c.events.ensures.value

-- the answer that is defined is the job's
answer-is : (c : After-answer_of-defined) → IsAnswerOf (data_of c.args.job.now) c.answer_of-defined.result
answer-is c =
    let job = data_of c.args.job.now in
    let events = c.args.claim.now.events in
    let accepted = c.accepting.ensures ∙ ap (accepts_at c.in_ok-dfa.dfa) (state-is c)
    ∙ ap (λ (x : CompleteDfa). is_accepted (automaton_of x) (event_letters events)) c.in_ok-dfa.ensures in
    let answer = answer-from job events c.args.counts.now c.requires.alphabet.located c.requires.counts c.requires.fit c.requires.closed c.requires.whole
    c.are_used_up.result c.accepting.result c.are_used_up.ensures accepted in
    subst (IsAnswerOf job) (sym c.answer_of-defined.ensures) answer

pub returns-then-are_same : goal.returns-then-are_same
returns-then-are_same c =
    let k = (goal.at.returns-then-are_same c).After-answer_of-defined in
    let job = data_of c.args.job.now in
    let events = c.args.claim.now.events in
    let same = c.if-are_same.ensures ∙ c.answer.ensures in
    let there : GoesWith (IsHope (automaton job) (walk (automaton job).step (automaton job).start (event_letters events))) c.answer_of-defined.result
    c.in_ok-hope.hope =
    subst (λ (x : CompleteDfa). GoesWith (IsHope (automaton_of x) (walk (step_of x) x.start (event_letters events))) c.answer_of-defined.result
    c.in_ok-hope.hope)
    c.in_ok-dfa.ensures
    (subst (λ (q : ℕ). GoesWith (IsHope (automaton_of c.in_ok-dfa.dfa) q) c.answer_of-defined.result c.in_ok-hope.hope) (state-is k) c.in_ok-hope.ensures) in
    let hope = hope-from job events c.requires.alphabet.located c.requires.closed c.requires.whole c.answer_of-defined.result c.in_ok-hope.hope there in
    (c.requires.whole, subst (IsAnswerOf job) same (answer-is k), subst (λ (a : Answer). HasHope job a c.in_ok-hope.hope) same hope)

pub returns : goal.returns
returns c =
    let k = (goal.at.returns c).After-answer_of-defined in (c.requires.whole, answer-is k, λ e. c.if-are_same.ensures (e ∙ sym c.answer.ensures))
