use Rattle.std.proofs.Common.{◌≡◌, ◌↔◌, length, ap, subst, sym, ◌∙◌}
use Rattle.std.specs.Prelude.{IsTrue}
use Rattle.za_alpha.specs.Words.{IsWord}
use Rattle.za_alpha.specs.Alphabet.{DistributedAlphabet, loc_of}
use Rattle.za_dfa.specs.Tables.{CompleteDfa, automaton_of, IsComplete}
use Rattle.za_dfa.proofs.TableLemmas.{total_of_complete}
use Rattle.za_script.specs.declared.answer.Answer.{Answer}
use Rattle.za_script.specs.Scripts.{Weaves, FitsMaximally}
use Rattle.za_script.specs.ScriptLists.{script_of}
use Rattle.za_script.specs.Woven.{weave_of}
use Rattle.za_script.specs.Answer.{IsAnswer, answer_by}
use Rattle.callers.proofs.scripts.answer.Goals as goal

pub answer_of-requires : goal.answer_of-requires
answer_of-requires c =
    let d = c.args.closed.now in
    let scripts = script_of c.args.scripts.now in
    let value = c.dfa-dfa.ensures.value in
    let same : c.alphabet.result.now ≡ d.alphabet = c.alphabet.ensures ∙ ap (λ (x : CompleteDfa). x.alphabet) value in
    let whole = subst IsComplete value c.states-states.ensures.whole in
    let word : c.in_ok-woven.woven.word ≡ weave_of d.alphabet c.args.scripts.now =
    c.in_ok-woven.ensures.weave.word ∙ ap (λ (a : DistributedAlphabet). weave_of a c.args.scripts.now) same in
    let fits = c.weaving_is_confluent.ensures.maximal (loc_of d.alphabet) (length d.alphabet.letters) d.alphabet.processes scripts whole.distributed.located in
    subst (λ (x : CompleteDfa). IsWord (length x.alphabet.letters) c.in_ok-woven.woven.word) (sym value)
    (subst (λ w. IsWord (length d.alphabet.letters) w) (sym word) fits.fits.word)

pub returns : goal.returns
returns c =
    let d = c.args.closed.now in
    let scripts = script_of c.args.scripts.now in
    let woven = c.in_ok-woven.woven in
    let value = c.dfa-dfa.ensures.value in
    let same : c.alphabet.result.now ≡ d.alphabet = c.alphabet.ensures ∙ ap (λ (x : CompleteDfa). x.alphabet) value in
    let whole = subst IsComplete value c.states-states.ensures.whole in
    let located = whole.distributed.located in
    let closed = c.diamonds_close_the_language.ensures.closed (loc_of d.alphabet) d.alphabet.processes (automaton_of d) located
    (total_of_complete d whole) c.dfa-dfa.ensures.diamonds in
    let word : woven.word ≡ weave_of d.alphabet c.args.scripts.now = c.in_ok-woven.ensures.weave.word
    ∙ ap (λ (a : DistributedAlphabet). weave_of a c.args.scripts.now) same in
    let used = subst (λ (a : DistributedAlphabet). IsTrue woven.whole ↔ Weaves (loc_of a) (length a.letters) scripts woven.word) same
    c.in_ok-woven.ensures.whole in
    let full = c.weaving_is_confluent.ensures.maximal (loc_of d.alphabet) (length d.alphabet.letters) d.alphabet.processes scripts located in
    let is : c.answer_of.result ≡ answer_by (automaton_of d) woven = c.answer_of.ensures ∙ ap (λ (x : CompleteDfa). answer_by (automaton_of x) woven) value in
    subst (λ (answer : Answer). IsAnswer (loc_of d.alphabet) (automaton_of d) scripts answer) (sym is)
    (c.answer_is_of_the_weave.ensures.maximal (loc_of d.alphabet) d.alphabet.processes (automaton_of d) scripts woven located closed
    (subst (λ w. FitsMaximally (loc_of d.alphabet) (length d.alphabet.letters) scripts w) (sym word) full) used)
