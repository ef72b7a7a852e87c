use Rattle.std.proofs.Common.{◌≡◌, ℕ, ◌<◌, [], ◌∷◌, ◌++◌, List, true, false, length, sym, ap, subst, ◌∙◌}
use Rattle.za_alpha.specs.Words.{has}
use Rattle.za_alpha.specs.Procs.{members}
use Rattle.za_alpha.specs.Alphabet.{DistributedAlphabet, loc_of, procs_at}
use Rattle.za_dfa.specs.Tables.{CompleteDfa}
use Rattle.za_local.specs.Locals.{local_after}
use Rattle.za_table.specs.Tables.{label_at}
use Rattle.za_table.proofs.labels.latest_label.Goals as goal
use Rattle.za_table.proofs.labels.latest_label.Goals.{After-loc-participants}

own : (c : After-loc-participants) → members c.loc-participants.result ≡ loc_of c.args.shared.now.dfa.alphabet c.args.a.0
own c = ap members (c.loc-participants.ensures ∙ ap (λ (al : DistributedAlphabet). procs_at al.letters c.args.a.0)
    (c.alphabet.ensures ∙ ap (λ (d : CompleteDfa). d.alphabet) (c.dfa.ensures.value ∙ c.closed-closed.ensures.value)))

pub unreachable-requires : goal.unreachable-requires
unreachable-requires c =
    let k = (goal.at.unreachable-requires c).After-loc-participants in
    let r = c.args.shared.now in
    let w = c.closed-closed.ensures.records.complete.distributed.located.some c.args.a.0 c.requires.letter in
    let e : loc_of r.dfa.alphabet c.args.a.0 ≡ [] = sym (own k) ∙ c.in_default.ensures in
    let z : false ≡ true = ap (λ (ps : List ℕ). has ps w.0) (sym e) ∙ w.1 in cc

pub own_label-requires-clause-event : goal.own_label-requires-clause-event
own_label-requires-clause-event c =
    let k = (goal.at.own_label-requires-clause-event c).After-loc-participants in
    let r = c.args.shared.now in
    let event = c.requires.event in
    let mine : has (loc_of r.dfa.alphabet c.args.a.0) c.in-Some.p ≡ true = subst (λ (ps : List ℕ). has ps c.in-Some.p ≡ true) (own k) c.in-Some.ensures.inside
    in
    let P : CompleteDfa → Type 0 = λ d. (x : List ℕ) × (y : ℕ) × (y < length d.alphabet.letters) × (has (loc_of d.alphabet y) c.in-Some.p ≡ true) ×
    (c.local.result.now ≡ local_after d (x ++ y ∷ []) c.in-Some.p) in
    subst P (sym c.closed-closed.ensures.value) (event.0, c.args.a.0, c.requires.letter, mine, c.local.ensures.after (event.0 ++ c.args.a.0 ∷ []) event.1)

pub returns : goal.returns
returns c = λ w h.
    let k = (goal.at.returns c).After-loc-participants in
    let r = c.args.shared.now in
    let mine : has (loc_of r.dfa.alphabet c.args.a.0) c.in-Some.p ≡ true = subst (λ (ps : List ℕ). has ps c.in-Some.p ≡ true) (own k) c.in-Some.ensures.inside
    in
    c.own_label.ensures w c.args.a.0 (subst (λ (d : CompleteDfa). has (loc_of d.alphabet c.args.a.0) c.in-Some.p ≡ true) (sym c.closed-closed.ensures.value)
    mine)
    (subst (λ (d : CompleteDfa). c.local.result.now ≡ local_after d (w ++ c.args.a.0 ∷ []) c.in-Some.p) (sym c.closed-closed.ensures.value)
    (c.local.ensures.after (w ++ c.args.a.0 ∷ []) h))
    ∙ ap (λ (d : CompleteDfa). label_at d (w ++ c.args.a.0 ∷ []) (length w)) c.closed-closed.ensures.value
