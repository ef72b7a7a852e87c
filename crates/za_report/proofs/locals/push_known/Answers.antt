use Rattle.std.proofs.Common.{◌≡◌, ℕ, ◌≤◌, List, ◌++◌, All, length, sym, ap, subst, ◌∙◌}
use Rattle.za_alpha.specs.Alphabet.{DistributedAlphabet, IsDistributed, loc_of}
use Rattle.za_dfa.specs.Tables.{CompleteDfa}
use Rattle.za_gossip.specs.Rows.{Rows, rows_after}
use Rattle.za_ids.specs.Numbers.{event_numbers}
use Rattle.za_order.specs.Labels.{label_bound}
use Rattle.za_local.specs.Locals.{LocalState, local_after, HasShape}
use Rattle.za_local.proofs.Shapes.{shape-after}
use Rattle.za_text.specs.Printed.{spaced}
use Rattle.za_report.specs.Private.KeptLines.{kept_words}
use Rattle.za_report.proofs.Entries.{known-by-numbers, numbers-bounded, kept-spaced}
use Rattle.za_report.proofs.locals.push_known.Goals as goal
use Rattle.za_report.proofs.locals.push_known.Goals.{After-primary}

known-is : (c : After-primary) (w : List ℕ) (p : ℕ) → c.args.local.now ≡ local_after c.args.closed.now w p →
    event_numbers c.primary.result.now ≡ (rows_after (loc_of c.args.closed.now.alphabet) c.args.closed.now.alphabet.processes w p).primary
known-is c w p is = c.primary.ensures.value ∙ ap (λ (g : Rows). g.primary) (c.gossip.ensures ∙ ap (λ (l : LocalState). l.gossip) is)

alphabet-is : (c : After-primary) → c.alphabet-alphabet.result.now ≡ c.args.closed.now.alphabet
alphabet-is c = c.alphabet-alphabet.ensures ∙ ap (λ (k : CompleteDfa). k.alphabet) c.dfa.ensures.value

pub view_state-state-requires : goal.view_state-state-requires
view_state-state-requires c =
    let d = c.args.closed.now in
    subst (λ (local : LocalState). HasShape d.alphabet.processes d.states local) (sym c.requires.3) (shape-after d c.requires.0 c.requires.1)

pub push_entries-requires : goal.push_entries-requires
push_entries-requires c =
    let d = c.args.closed.now in
    let w = c.requires.0 in
    let p = c.requires.1 in
    subst (λ (a : DistributedAlphabet). All (λ v. v ≤ label_bound (length a.letters) a.processes) (event_numbers c.primary.result.now)) (sym (alphabet-is c))
    (subst (λ (xs : List ℕ). All (λ v. v ≤ label_bound (length d.alphabet.letters) d.alphabet.processes) xs) (sym (known-is c w p c.requires.3))
    (numbers-bounded d.alphabet w p (subst IsDistributed (alphabet-is c) c.processes-processes.ensures.whole) c.requires.2))

pub returns : goal.returns
returns c w p word is =
    let at = goal.at.returns c in
    let k = at.After-primary in
    let d = c.args.closed.now in
    let numbers = event_numbers c.primary.result.now in
    let state = c.view_state-state.result in
    let old = c.args.text.now.items in
    kept-spaced c.alphabet-alphabet.result.now numbers state old c.push_entries.new.text.items c.push_word.new.text.items c.push_number.new.text.items
    c.in_ok-push_entries.ensures.ok c.in_ok-push_word.ensures.ok c.in_ok-push_number.ensures.ok
    ∙ ap (λ (a : DistributedAlphabet). old ++ spaced (kept_words a numbers state)) (alphabet-is k)
    ∙ ap (λ (ws : List (List ℕ)). old ++ spaced ws) (known-by-numbers d w p numbers state (known-is k w p is) (c.view_state-state.ensures.state w p is))
