use Rattle.std.proofs.Common.{IfOk, Ok, Err, subst}
use Rattle.std.specs.declared.result.Result.{Result}
use Rattle.za_alpha.specs.Alphabet.{loc_of}
use Rattle.za_dfa.specs.Automata.{IsTraceClosed}
use Rattle.za_dfa.specs.Tables.{CompleteDfa, automaton_of}
use Rattle.za_min.specs.Minimal.{IsMinimalOf}
use Rattle.za_freeze.proofs.thawing.automaton_of.Goals as goal

both : {T E : Type 0} (r : Result T E) (P Q R : T → Type 0) → ((x : T) → P x → Q x → R x) → IfOk r P → IfOk r Q → IfOk r R
both (Ok x) P Q R f p q = f x p q
both (Err e) P Q R f p q = tt

pub returns-clause-closed : goal.returns-clause-closed
returns-clause-closed c =
    let dfa = c.in_ok-dfa.dfa in
    let is = c.in_ok-dfa.ensures in
    both c.close.result _ _ _
    (λ closed m t. record {
      minimal = subst (λ (g : CompleteDfa). IsMinimalOf closed g) is m;
      closed = subst (λ (g : CompleteDfa). IsTraceClosed (loc_of g.alphabet) (automaton_of g)) is t;
    })
    c.close.ensures.minimal c.close.ensures.closed
