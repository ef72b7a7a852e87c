use Rattle.std.proofs.Common.{◌≡◌, ℕ, ◌+◌, ◌*◌, ◌==◌, ◌||◌, Bool, true, List, [], ◌∷◌, length, get_or, slice_index, sym, ap, subst, ◌∙◌, arith}
use Rattle.std.specs.List.{range_with_len, list_any}
use Rattle.std.specs.Option.{option_map_or}
use Rattle.std.proofs.lemmas.List.{length-map}
use Rattle.za_alpha.specs.Alphabet.{loc_of}
use Rattle.za_order.specs.Views.{participants, in_view}
use Rattle.za_order.specs.Entries.{primary}
use Rattle.za_ids.specs.declared.ids.EventId.{EventId}
use Rattle.za_gossip.specs.Rows.{Rows, AreRowsAfter}
use Rattle.za_gossip.proofs.Places.{number-at}
use Rattle.za_gossip.proofs.Inputs.{IsBestOf, inputs-some, primary-length, knows-at, best-first, best-stays, best-moves, best-last}
use Rattle.za_gossip.proofs.news.newest.Goals as goal
use Rattle.za_gossip.proofs.news.newest.Goals.{Joined-not-knows, then-not-knows, else-not-knows}

pub loop-y-init : goal.loop-y-init
loop-y-init c =
    let some = inputs-some c.args.alphabet.now c.args.a.0 c.processes-n.ensures.whole c.requires.letter c.args.inputs.now c.requires.rows.0 c.requires.rows.1 in
    record {
      some = some;
      below = omega arith;
      best = λ w given. best-first c.args.alphabet.now c.args.a.0 c.processes-n.ensures.whole c.requires.letter c.args.inputs.now w given c.args.r some;
    }

pub bounds-inputs-newest : goal.bounds-inputs-newest
bounds-inputs-newest c = let b = c.loop-y.invariant.below in omega arith

pub bounds-primary-r : goal.bounds-primary-r
bounds-primary-r c =
    let size = ap (λ (rows : Rows). length rows.primary) c.index-inputs-y.is
    ∙ primary-length c.args.alphabet.now c.args.a.0 c.processes-n.ensures.whole c.requires.letter c.args.inputs.now c.requires.rows.0 c.requires.rows.1
    c.loop-y.y c.index-inputs-y.result c.loop-y-test.true in
    let long = sym (length-map c.primary.result.now (λ (id : EventId). id.0)) ∙ ap length c.primary.ensures.value in
    let r = c.requires.process in
    omega arith

pub knows-requires-clause-shape : goal.knows-requires-clause-shape
knows-requires-clause-shape c =
    let b = c.loop-y.invariant.below in
    ap (λ (rows : Rows). length rows.primary) c.index-inputs-newest.is
    ∙ primary-length c.args.alphabet.now c.args.a.0 c.processes-n.ensures.whole c.requires.letter c.args.inputs.now c.requires.rows.0 c.requires.rows.1
    c.loop-y.newest c.index-inputs-newest.result (let t = c.loop-y-test.true in omega arith)
    ∙ sym c.processes-n.ensures.value

-- the answer of the test, by views
seen : (c : Joined-not-knows) (w : List ℕ) → AreRowsAfter c.args.alphabet.now w (loc_of c.args.alphabet.now c.args.a.0) c.args.inputs.now →
    c.knows.result ≡ option_map_or (λ f. in_view (participants (loc_of c.args.alphabet.now) w) (length w)
    (get_or (loc_of c.args.alphabet.now c.args.a.0) c.loop-y.newest 0 ∷ []) f)
    (primary (participants (loc_of c.args.alphabet.now) w) (length w) (get_or (loc_of c.args.alphabet.now c.args.a.0) c.loop-y.y 0) c.args.r) true
seen c w given =
    let event : ℕ = (get_or c.primary.result.now c.args.r (record { 0 = 0 })).0 in
    let test : ℕ → Bool = λ n. event == 0 || list_any (λ q. slice_index c.index-inputs-newest.result.secondary (q * n + c.args.r) == event)
    (range_with_len 0 n) in
    let b = c.loop-y.invariant.below in
    let t = c.loop-y-test.true in
    c.knows.ensures ∙ ap test c.processes-n.ensures.value
    ∙ knows-at c.args.alphabet.now c.args.a.0 c.processes-n.ensures.whole c.requires.letter c.args.inputs.now w given c.loop-y.newest c.loop-y.y c.args.r
    c.index-inputs-newest.result c.index-inputs-y.result event (omega arith) t c.requires.process c.index-inputs-newest.is c.index-inputs-y.is
    (sym (number-at c.primary.result.now c.args.r) ∙ ap (λ xs. slice_index xs c.args.r) c.primary.ensures.value)

pub loop-y-preserved : goal.loop-y-preserved
loop-y-preserved c =
    let so_far = c.loop-y.invariant in
    let b = so_far.below in
    let t = c.loop-y-test.true in
    elim c.if-not-knows.branch [
      | then-not-knows w ↦
          let here = w.newest-is in
          record {
            some = omega arith;
            below = omega arith;
            best = λ u given.
                subst (λ i. IsBestOf c.args.alphabet.now c.args.a.0 u c.args.r (c.loop-y.y + 1) i) (sym here)
                (best-moves c.args.alphabet.now c.args.a.0 c.processes-n.ensures.whole c.requires.letter c.args.inputs.now u given c.args.r c.loop-y.y
                c.loop-y.newest t (so_far.best u given)
                (sym (seen c u given) ∙ w.if-not-knows.true));
          }
      | else-not-knows w ↦
          let here = w.newest-is in
          record {
            some = omega arith;
            below = omega arith;
            best = λ u given.
                subst (λ i. IsBestOf c.args.alphabet.now c.args.a.0 u c.args.r (c.loop-y.y + 1) i) (sym here)
                (best-stays c.args.alphabet.now c.args.a.0 c.processes-n.ensures.whole c.requires.letter c.args.inputs.now u given c.args.r c.loop-y.y
                c.loop-y.newest t (so_far.best u given)
                (sym (seen c u given) ∙ w.if-not-knows.false));
          }
    ]

pub returns-clause-within : goal.returns-clause-within
returns-clause-within c = let b = c.loop-y.invariant.below in let s = c.loop-y.invariant.some in omega arith

pub returns-clause-best : goal.returns-clause-best
returns-clause-best c = λ w given.
    let b = c.loop-y.invariant.below in
    let s = c.loop-y.invariant.some in
    let t = c.loop-y-test.false in
    best-last c.args.alphabet.now c.args.a.0 c.processes-n.ensures.whole c.requires.letter c.args.inputs.now w given c.args.r c.loop-y.y c.loop-y.newest
    (omega arith) (omega arith)
    (c.loop-y.invariant.best w given)
