use Rattle.std.proofs.Common.{◌≡◌, ◌∙◌, sym, ap, subst, Result, Ok, Err}
use Rattle.std.specs.Result.{IfErr, IsErrAnd}
use Rattle.za_alpha.specs.Alphabet.{DistributedAlphabet}
use Rattle.za_dfa.specs.Tables.{CompleteDfa}
use Rattle.za_script.specs.ScriptLists.{FitAlphabet}
use Rattle.za_script.proofs.RestLists.{rest-fits}
use Rattle.za_lang.specs.Answers.{data_of}
use Rattle.za_freeze.specs.Frozen.{cut_word}
use Rattle.za_freeze.specs.Thawing.{IsRefusedFor}
use Rattle.za_freeze.proofs.Refusals.{open-refused, unlike-refused}
use Rattle.za_freeze.proofs.thawing.thaw.Goals as goal

-- what holds of the fault that a result is holds of it
for_fault : {T E : Type 0} (Q : E → Type 0) (r : Result T E) (x : E) → IsErrAnd r (λ e. e ≡ x) → Q x → IfErr r Q
for_fault Q (Ok y) x h q = absurd h
for_fault Q (Err e) x h q = subst Q (sym h) q

pub returns-in_err-closed-clause-refused : goal.returns-in_err-closed-clause-refused
returns-in_err-closed-clause-refused c =
    let said = c.in_ok-said.ensures.answer in
    let rest = open-refused c.args.bytes.now (data_of c.in_ok-said.said.job) said.1 said.0 c.in_err-closed.field-0.0 c.in_err-closed.ensures.refused in
    for_fault (IsRefusedFor c.args.bytes.now) c.from_residual-in_err-closed.result _ c.from_residual-in_err-closed.ensures.1 rest

pub returns-in_err-left-clause-refused : goal.returns-in_err-left-clause-refused
returns-in_err-left-clause-refused c =
    let said = c.in_ok-said.ensures.answer in
    let rest = unlike-refused c.args.bytes.now (data_of c.in_ok-said.said.job) said.1 said.0 c.in_ok-closed.closed
    c.in_ok-said.said.cut said.2 c.in_ok-closed.ensures.closed c.in_err-left.field-0.0 c.in_err-left.ensures.refused in
    for_fault (IsRefusedFor c.args.bytes.now) c.from_residual-in_err-left.result _ c.from_residual-in_err-left.ensures.1 rest

pub returns-clause-fit : goal.returns-clause-fit
returns-clause-fit c =
    let job = data_of c.in_ok-said.said.job in
    let given = job.lang.alphabet in
    let w = cut_word job c.in_ok-said.said.cut in
    let same : c.restart.result.alphabet ≡ given = ap (λ (d : CompleteDfa). d.alphabet) c.restart.ensures ∙ c.in_ok-closed.ensures.closed.minimal.alphabet in
    subst (λ (a : DistributedAlphabet). FitAlphabet a c.in_ok-left.left.rest) (sym same)
    (subst (FitAlphabet given) (sym c.in_ok-left.ensures.rest) (rest-fits given job.scripts w c.in_ok-said.ensures.job.fit))
