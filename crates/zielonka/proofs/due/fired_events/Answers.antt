use Rattle.std.proofs.Common.{◌≡◌, ℕ, ◌∙◌, [], ◌∷◌, ◌++◌, get_or, ap, sym, arith}
use Rattle.std.proofs.lemmas.List.FromFn.{map-range_with_len_more}
use Rattle.za_alpha.proofs.Projections.{number-at}
use Rattle.za_claim.specs.declared.claim.Event.{Event}
use Rattle.zielonka.specs.Journals.{fired_event}
use Rattle.zielonka.proofs.due.fired_events.Goals as goal

pub loop-at-preserved : goal.loop-at-preserved
loop-at-preserved c =
    let alphabet = c.args.run.now.given.dfa.alphabet in
    let w = c.args.run.now.state.journal in
    let at = c.loop-at.at in
    let letters = c.letters-letter-items.result.now in
    let before = c.loop-at.events.items in
    let same : (get_or letters at (record { 0 = 0 })).0 ≡ get_or w at 0 =
    sym (number-at letters at (record { 0 = 0 }) c.loop-at-test.true) ∙ ap (λ v. get_or v at 0) (c.letters-letter-items.ensures ∙ c.word.ensures) in
    let event : record { letter = get_or letters at (record { 0 = 0 }); label = c.label-label.result } ≡ fired_event alphabet w at =
    ap (λ (a : ℕ). record { letter = record { 0 = a }; label = c.label-label.result }) same
    ∙ ap (λ (k : ℕ). record { letter = record { 0 = get_or w at 0 }; label = k }) c.label-label.ensures in
    c.in_ok-push.ensures.items ∙ ap (λ (e : Event). before ++ e ∷ []) event ∙ ap (λ es. es ++ fired_event alphabet w at ∷ []) c.loop-at.invariant
    ∙ sym (map-range_with_len_more (fired_event alphabet w) 0 at at (omega arith))
