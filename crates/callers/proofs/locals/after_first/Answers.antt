use Rattle.std.proofs.Common.{◌≡◌, ◌<◌, ◌≤◌, ℕ, List, [], length, replicate, ap, subst, sym, ◌∙◌, arith}
use Rattle.std.proofs.lemmas.List.{length-replicate}
use Rattle.std.proofs.lemmas.List.Elements.{All-nil}
use Rattle.za_alpha.specs.Procs.{members}
use Rattle.za_alpha.specs.Alphabet.{DistributedAlphabet, IsDistributed, loc_of, procs_at}
use Rattle.za_order.proofs.Rising.{length-members-le}
use Rattle.za_dfa.specs.Tables.{CompleteDfa}
use Rattle.za_local.specs.Locals.{LocalState, local_after, AreLocalsAfter, HasShape}
use Rattle.za_local.proofs.Shapes.{shape-after}
use Rattle.za_alpha.proofs.Copies.{same-for-all}
use Rattle.callers.proofs.locals.after_first.Goals as goal

-- copies of the opening are the local states of the letter's processes before any event
openings : (d : CompleteDfa) (a count : ℕ) (local : LocalState) (locals : List LocalState) → count ≡ length (loc_of d.alphabet a) →
    locals ≡ replicate count local →
    ((p : ℕ) → local ≡ local_after d [] p) → AreLocalsAfter d [] (loc_of d.alphabet a) locals
openings d a count local locals counted copies same = record {
  word = All-nil _;
  locals = copies ∙ ap (λ k. replicate k local) counted ∙ same-for-all (local_after d []) local (loc_of d.alphabet a) same;
}

-- a letter has no more processes than there are
loc-few : (alphabet : DistributedAlphabet) (a : ℕ) → IsDistributed alphabet → a < length alphabet.letters → length (loc_of alphabet a) ≤ alphabet.processes
loc-few alphabet a whole letter =
    let few = whole.few_processes in
    length-members-le (procs_at alphabet.letters a) alphabet.processes (omega arith) (λ p h. whole.located.below a p letter h)

-- the opening is for the processes and states of the DFA
opening-shape : (d : CompleteDfa) (local : LocalState) → ((p : ℕ) → local ≡ local_after d [] p) → HasShape d.alphabet.processes d.states local
opening-shape d local same = subst (λ (l : LocalState). HasShape d.alphabet.processes d.states l) (sym (same 0)) (shape-after d [] 0)

pub add-requires-clause-room : goal.add-requires-clause-room
add-requires-clause-room c =
    let d = c.args.closed.now in
    let same : c.alphabet-alphabet.result.now ≡ d.alphabet = c.alphabet-alphabet.ensures ∙ ap (λ (x : CompleteDfa). x.alphabet) c.dfa.ensures.value in
    let whole = subst (λ (alphabet : DistributedAlphabet). IsDistributed alphabet) same c.letters-letters.ensures.whole in
    let count : c.count-end.result ≡ length (loc_of d.alphabet c.args.a.0) =
    c.count-end.ensures ∙ ap (λ s. length (members s)) (c.loc.ensures ∙ ap (λ (alphabet : DistributedAlphabet). procs_at alphabet.letters c.args.a.0) same) in
    let few = loc-few d.alphabet c.args.a.0 whole c.requires in
    let long : length c.loop.bench.locals ≡ c.loop.counter = ap length c.loop.invariant.locals ∙ length-replicate c.loop.counter c.in_ok-local.local in
    let room = c.loop.invariant.processes in
    let more = c.loop-test.true in
    omega arith

pub add-requires-clause-shape : goal.add-requires-clause-shape
add-requires-clause-shape c =
    let d = c.args.closed.now in
    subst (λ n. HasShape n c.loop.bench.states c.in_ok-local.local) (sym c.loop.invariant.processes)
    (subst (λ k. HasShape d.alphabet.processes k c.in_ok-local.local) (sym c.loop.invariant.states) (opening-shape d c.in_ok-local.local c.in_ok-local.ensures))

pub transit-requires-clause-locals : goal.transit-requires-clause-locals
transit-requires-clause-locals c =
    let d = c.args.closed.now in
    let same : c.alphabet-alphabet.result.now ≡ d.alphabet = c.alphabet-alphabet.ensures ∙ ap (λ (x : CompleteDfa). x.alphabet) c.dfa.ensures.value in
    let count : c.count-end.result ≡ length (loc_of d.alphabet c.args.a.0) =
    c.count-end.ensures ∙ ap (λ s. length (members s)) (c.loc.ensures ∙ ap (λ (alphabet : DistributedAlphabet). procs_at alphabet.letters c.args.a.0) same) in
    let all : c.loop.counter ≡ c.count-end.result = omega arith in
    ([], openings d c.args.a.0 c.loop.counter c.in_ok-local.local c.loop.bench.locals (all ∙ count) c.loop.invariant.locals c.in_ok-local.ensures)

pub transit-requires-clause-shape : goal.transit-requires-clause-shape
transit-requires-clause-shape c = opening-shape c.args.closed.now c.in_ok-local.local c.in_ok-local.ensures

pub returns : goal.returns
returns c =
    let d = c.args.closed.now in
    let same : c.alphabet-alphabet.result.now ≡ d.alphabet = c.alphabet-alphabet.ensures ∙ ap (λ (x : CompleteDfa). x.alphabet) c.dfa.ensures.value in
    let count : c.count-end.result ≡ length (loc_of d.alphabet c.args.a.0) =
    c.count-end.ensures ∙ ap (λ s. length (members s)) (c.loc.ensures ∙ ap (λ (alphabet : DistributedAlphabet). procs_at alphabet.letters c.args.a.0) same) in
    let all : c.loop.counter ≡ c.count-end.result = omega arith in
    c.transit.ensures.local [] (openings d c.args.a.0 c.loop.counter c.in_ok-local.local c.loop.bench.locals (all ∙ count) c.loop.invariant.locals
    c.in_ok-local.ensures)
