use Rattle.std.proofs.Common.{◌≡◌, ℕ, ◌+◌, ◌<◌, ◌≤◌, List, length, map, set, slice_index_or, sym, ap, subst, ◌∙◌, arith}
use Rattle.std.proofs.lemmas.List.{length-map, get_or_default}
use Rattle.za_alpha.specs.declared.procs.Procs.{Procs}
use Rattle.za_alpha.specs.Words.{has}
use Rattle.za_alpha.specs.Alphabet.{DistributedAlphabet, IsDistributed, loc_of, procs_at}
use Rattle.za_alpha.specs.Procs.{members, members_below}
use Rattle.za_dfa.specs.Tables.{CompleteDfa}
use Rattle.za_order.proofs.Rising.{members-fit, length-members_below-le}
use Rattle.za_local.specs.Locals.{LocalState, local_after, HasShape}
use Rattle.za_local.specs.Benches.{LocalStates}
use Rattle.za_local.proofs.Given.{locals-length, local-at}
use Rattle.za_local.proofs.Gathered.{AreGathered, gathered-none, gathered-in, gathered-out}
use Rattle.za_local.proofs.firing.gather.Goals as goal
use Rattle.za_local.proofs.firing.gather.Goals.{After-processes-x-end, In-loop-x, then-has, else-has}

alphabet : (c : After-processes-x-end) → c.alphabet-alphabet.result.now ≡ c.args.closed.now.alphabet
alphabet c = c.alphabet-alphabet.ensures ∙ ap (λ (k : CompleteDfa). k.alphabet) c.dfa.ensures.value

count : (c : After-processes-x-end) → c.processes-x-end.result ≡ c.args.closed.now.alphabet.processes
count c = c.processes-x-end.ensures.value ∙ ap (λ (a : DistributedAlphabet). a.processes) (alphabet c)

-- the process is one, and has a local state
here : (c : In-loop-x) → (c.loop-x.x < c.args.closed.now.alphabet.processes) × (c.loop-x.x < length c.loop-x.locals) × (c.loop-x.x < 16)
here c =
    let n = count (goal.at.In-loop-x c).After-processes-x-end in
    let few = c.processes-x-end.ensures.whole.few_processes in
    let v : c.processes-x-end.result ≡ c.alphabet-alphabet.result.now.processes = c.processes-x-end.ensures.value in
    let long = locals-length c.args.closed.now c.requires.locals.0 c.args.locals.now c.requires.locals.1 in
    let many = c.loop-x.invariant.many in
    let t = c.loop-x-test.true in
    (omega arith, omega arith, omega arith)

pub loop-x-init : goal.loop-x-init
loop-x-init c = gathered-none c.args.closed.now c.loc-participants.result c.args.locals.now c.clear.new.self c.args.bench.now c.requires.processes
    c.requires.states c.clear.ensures

pub bounds-locals-x : goal.bounds-locals-x
bounds-locals-x c = (here (goal.at.bounds-locals-x c).In-loop-x).1

pub exchange-requires-clause-room : goal.exchange-requires-clause-room
exchange-requires-clause-room c =
    let d = c.args.closed.now in
    let s = c.loc-participants.result in
    let l = here (goal.at.exchange-requires-clause-room c).In-loop-x in
    let len : length c.loop-x.bench.locals ≡ length (members_below s c.loop-x.x) =
    ap length (c.loop-x.invariant.taken c.requires.locals.0 c.requires.locals.1) ∙ length-map (members_below s c.loop-x.x) (local_after d c.requires.locals.0)
    in
    let inside = l.0 in
    let small = l.2 in
    let le : length (members_below s c.loop-x.x) ≤ c.loop-x.x = length-members_below-le s c.loop-x.x (omega arith) in
    let room = c.loop-x.invariant.processes in
    omega arith

pub exchange-requires-clause-shape : goal.exchange-requires-clause-shape
exchange-requires-clause-shape c =
    let d = c.args.closed.now in
    let l = here (goal.at.exchange-requires-clause-shape c).In-loop-x in
    let own : LocalState = slice_index_or c.loop-x.locals c.loop-x.x c.index-locals-x.result in
    subst (λ n. HasShape n c.loop-x.bench.states own) (sym c.loop-x.invariant.processes)
    (subst (λ k. HasShape d.alphabet.processes k own) (sym c.loop-x.invariant.states)
    (c.loop-x.invariant.shapes c.requires.locals.0 c.requires.locals.1 c.loop-x.x c.index-locals-x.result l.0))

pub loop-x-preserved : goal.loop-x-preserved
loop-x-preserved c =
    let d = c.args.closed.now in
    let s = c.loc-participants.result in
    let x : ℕ = c.loop-x.x in
    let l = here (goal.at.loop-x-preserved c).In-loop-x in
    let k = c.loop-x.invariant in
    elim c.if-has.branch [
      | then-has u ↦
          let own : LocalState = slice_index_or c.loop-x.locals x u.index-locals-x.result in
          let new : LocalState = u.exchange.new.local in
          let shape : HasShape d.alphabet.processes d.states new =
          subst (λ n. HasShape n d.states new) k.processes (subst (λ m. HasShape c.loop-x.bench.processes m new) k.states u.exchange.ensures.shape) in
          subst (λ (ls : List LocalState). AreGathered d s c.args.locals.now ls c.if-has.bench (x + 1)) (sym u.locals-is)
          (subst (λ (b : LocalStates). AreGathered d s c.args.locals.now (set c.loop-x.locals x new) b (x + 1)) (sym u.bench-is)
          (gathered-in d s c.args.locals.now c.loop-x.locals c.loop-x.bench u.exchange.new.self x own new l.0 l.2 l.1 (sym c.has.ensures ∙ u.if-has.true) k
          (get_or_default c.loop-x.locals x u.index-locals-x.result own l.1) u.exchange.ensures.bench shape))
      | else-has u ↦
          subst (λ (ls : List LocalState). AreGathered d s c.args.locals.now ls c.if-has.bench (x + 1)) (sym u.locals-is)
          (subst (λ (b : LocalStates). AreGathered d s c.args.locals.now c.loop-x.locals b (x + 1)) (sym u.bench-is)
          (gathered-out d s c.args.locals.now c.loop-x.locals c.loop-x.bench x l.2 (sym c.has.ensures ∙ u.if-has.false) k))
    ]

-- the set is that of the participants
participants : (c : After-processes-x-end) → members c.loc-participants.result ≡ loc_of c.args.closed.now.alphabet c.args.a.0
participants c = ap members c.loc-participants.ensures ∙ ap (λ (a : DistributedAlphabet). loc_of a c.args.a.0) (alphabet c)

pub returns-clause-participants : goal.returns-clause-participants
returns-clause-participants c =
    let d = c.args.closed.now in
    let b = (goal.at.returns-clause-participants c).After-processes-x-end in
    let n = count b in
    let t = c.loop-x-test.false in
    let whole : IsDistributed d.alphabet = subst IsDistributed (alphabet b) c.processes-x-end.ensures.whole in
    let few = whole.few_processes in
    let set = procs_at d.alphabet.letters c.args.a.0 in
    let same : c.loc-participants.result ≡ set = c.loc-participants.ensures ∙ ap (λ (a : DistributedAlphabet). procs_at a.letters c.args.a.0) (alphabet b) in
    let end : c.loop-x.x ≡ d.alphabet.processes = omega arith in
    λ w h. record {
      word = h.word;
      locals = c.loop-x.invariant.taken w h ∙ ap (λ (s : Procs). map (local_after d w) (members_below s c.loop-x.x)) same
          ∙ ap (λ k. map (local_after d w) (members_below set k)) end
          ∙ ap (map (local_after d w)) (members-fit set d.alphabet.processes (omega arith) (λ p m. whole.located.below c.args.a.0 p c.requires.letter m));
    }

pub returns-clause-others : goal.returns-clause-others
returns-clause-others c = λ w h.
    let d = c.args.closed.now in
    let b = (goal.at.returns-clause-others c).After-processes-x-end in
    let k = c.loop-x.invariant in
    record {
      word = h.word;
      many = k.many ∙ locals-length d w c.args.locals.now h;
      others = λ q e l f. k.others q e (ap (λ ps. has ps q) (participants b) ∙ f) ∙ local-at d w c.args.locals.now h q e l;
      shapes = λ q e l. k.shapes w h q e l;
    }
