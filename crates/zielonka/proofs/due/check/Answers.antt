use Rattle.std.proofs.Common.{◌≡◌, List, ℕ, refl, sym, ap, subst, ◌∙◌}
use Rattle.za_alpha.specs.Alphabet.{DistributedAlphabet}
use Rattle.za_dfa.specs.Tables.{CompleteDfa}
use Rattle.za_lang.specs.Answers.{data_of}
use Rattle.za_report.specs.Texts.{check_text}
use Rattle.zielonka.specs.declared.request.Command.TheVariants.{Check}
use Rattle.zielonka.specs.Output.{IsAnswered, Checked}
use Rattle.zielonka.specs.Private.Saying.{OfNone}
use Rattle.zielonka.proofs.due.check.Goals as goal

pub returns-clause-answered : goal.returns-clause-answered
returns-clause-answered c =
    let job = data_of c.args.it.now.job in
    let d = c.args.it.now.closed in
    let cache = c.args.cache in
    let text : c.in_ok-text.text.items ≡ check_text job.lang.alphabet d.states cache =
    c.in_ok-text.ensures ∙ ap (λ (a : DistributedAlphabet). check_text a c.states.result cache) c.alphabet.ensures
    ∙ ap (λ n. check_text job.lang.alphabet n cache) (c.states.ensures.value ∙ ap (λ (e : CompleteDfa). e.states) c.dfa.ensures.value) in
    subst (λ (t : List ℕ). IsAnswered job c.args.it.now.claim (Check cache) 0 t) (sym text) (Checked cache d c.requires.minimal)

pub returns-clause-made : goal.returns-clause-made
returns-clause-made c = OfNone refl
