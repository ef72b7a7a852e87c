use Rattle.std.proofs.Common.{◌≡◌, ℕ, ◌<◌, ◌≤◌, ◌^◌, [], ◌∷◌, ◌++◌, List, true, length, slice_index, get_or, sym, ap, subst, ◌∙◌, arith}
use Rattle.std.specs.Option.{unwrap_or}
use Rattle.std.proofs.lemmas.List.{get_or-map, length-map}
use Rattle.za_alpha.specs.Limits.{most_letters}
use Rattle.za_alpha.specs.Words.{has}
use Rattle.za_alpha.specs.Alphabet.{DistributedAlphabet, loc_of}
use Rattle.za_dfa.specs.Tables.{CompleteDfa}
use Rattle.za_ids.specs.Numbers.{event_numbers}
use Rattle.za_ids.specs.declared.ids.EventId.{EventId}
use Rattle.za_order.specs.Labels.{label, number_of, label_bound}
use Rattle.za_order.proofs.Labels.{labels_are_bounded}
use Rattle.za_gossip.specs.Rows.{Rows}
use Rattle.za_local.specs.Locals.{LocalState, local_after}
use Rattle.za_local.proofs.Shapes.{shape-after}
use Rattle.za_table.proofs.KnownLabels.{own-entry, number-le}
use Rattle.za_table.proofs.labels.own_label.Goals as goal
use Rattle.za_table.proofs.labels.own_label.Goals.{After-primary-entries}

-- the row that is read
row : (c : After-primary-entries) → event_numbers c.primary-entries.result.now ≡ c.args.local.now.gossip.primary
row c = c.primary-entries.ensures.value ∙ ap (λ (g : Rows). g.primary) c.gossip.ensures

processes : (c : After-primary-entries) → c.processes-n.result ≡ c.args.closed.now.alphabet.processes
processes c = c.processes-n.ensures.value ∙ ap (λ (al : DistributedAlphabet). al.processes) c.alphabet.ensures ∙ ap
    (λ (d : CompleteDfa). d.alphabet.processes) c.dfa.ensures.value

long : (c : After-primary-entries) → length c.primary-entries.result.now ≡ c.args.closed.now.alphabet.processes
long c =
    let d = c.args.closed.now in
    let event = c.requires.event in
    sym (length-map c.primary-entries.result.now (λ (id : EventId). id.0)) ∙ ap length (row c) ∙ ap (λ (l : LocalState). length l.gossip.primary) event.4
    ∙ (shape-after d (event.0 ++ event.1 ∷ []) c.args.p).gossip

entry : (c : After-primary-entries) (w : List ℕ) (a : ℕ) → has (loc_of c.args.closed.now.alphabet a) c.args.p ≡ true → c.args.local.now ≡ local_after
    c.args.closed.now (w ++ a ∷ []) c.args.p →
    (get_or c.primary-entries.result.now c.args.p (record { 0 = 0 })).0
    ≡ number_of c.processes-n.result a (label (loc_of c.args.closed.now.alphabet) c.args.closed.now.alphabet.processes (w ++ a ∷ []) (length w))
entry c w a h e =
    let d = c.args.closed.now in
    let size = long c in
    let l = c.requires.process in
    sym (get_or-map (λ (id : EventId). id.0) c.primary-entries.result.now c.args.p (record { 0 = 0 }) 0 (omega arith))
    ∙ ap (λ (xs : List ℕ). slice_index xs c.args.p) (row c) ∙ ap (λ (x : LocalState). slice_index x.gossip.primary c.args.p) e ∙ own-entry d w a c.args.p l h
    ∙ ap (λ n. number_of n a (label (loc_of d.alphabet) d.alphabet.processes (w ++ a ∷ []) (length w))) (sym (processes c))

small : (c : After-primary-entries) (w : List ℕ) (a : ℕ) → label (loc_of c.args.closed.now.alphabet) c.args.closed.now.alphabet.processes (w ++ a ∷ [])
    (length w) ≤ c.processes-n.result ^ 3
small c w a =
    let d = c.args.closed.now in
    subst (λ (n : ℕ). label (loc_of d.alphabet) d.alphabet.processes (w ++ a ∷ []) (length w) ≤ n ^ 3) (sym (processes c))
    (labels_are_bounded (loc_of d.alphabet) d.alphabet.processes (w ++ a ∷ []) (length w))

pub bounds-entries-p : goal.bounds-entries-p
bounds-entries-p c = let k = (goal.at.bounds-entries-p c).After-primary-entries in let e = long k in let l = c.requires.process in omega arith

pub label_of-requires-clause-number : goal.label_of-requires-clause-number
label_of-requires-clause-number c =
    let k = (goal.at.label_of-requires-clause-number c).After-primary-entries in
    let event = c.requires.event in
    let l = label (loc_of c.args.closed.now.alphabet) c.args.closed.now.alphabet.processes (event.0 ++ event.1 ∷ []) (length event.0) in
    let same : length c.alphabet.result.now.letters ≡ length c.args.closed.now.alphabet.letters = ap (λ (al : DistributedAlphabet). length al.letters)
    c.alphabet.ensures ∙ ap (λ (d : CompleteDfa). length d.alphabet.letters) c.dfa.ensures.value in
    let few = c.processes-n.ensures.whole.few_letters in
    let la : event.1 < most_letters = let m = event.2 in omega arith in
    subst (λ (x : ℕ). x ≤ label_bound most_letters c.processes-n.result) (sym (entry k event.0 event.1 event.3 event.4))
    (number-le most_letters c.processes-n.result event.1 l (small k event.0 event.1) la)

pub returns : goal.returns
returns c = λ w a h e.
    let k = (goal.at.returns c).After-primary-entries in
    let d = c.args.closed.now in
    c.unwrap_or.ensures ∙ ap (λ o. unwrap_or o 0) (c.label_of.ensures.inverse a (label (loc_of d.alphabet) d.alphabet.processes (w ++ a ∷ []) (length w))
    (small k w a) (entry k w a h e))
