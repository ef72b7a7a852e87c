use Rattle.std.proofs.Common.{◌≡◌, ◌<◌, ℕ, ◌+◌, true, false, List, [], ◌∷◌, ◌++◌, Option, set, slice_index_or, sym, ap, subst, ◌∙◌, arith}
use Rattle.std.specs.Prelude.{MatchOption}
use Rattle.za_alpha.specs.Words.{has}
use Rattle.za_alpha.specs.Procs.{members, IsLeastOf}
use Rattle.za_alpha.specs.Alphabet.{DistributedAlphabet, IsDistributed, loc_of}
use Rattle.za_dfa.specs.Tables.{CompleteDfa}
use Rattle.za_local.specs.Locals.{LocalState, AreAllLocalsAfter, HasShape}
use Rattle.za_local.proofs.HandOut.{AreHandedOut, given-first, given-part, given-other, given-all}
use Rattle.za_local.proofs.Shapes.{shape-after}
use Rattle.za_local.proofs.firing.hand_out.Goals as goal
use Rattle.za_local.proofs.firing.hand_out.Goals.{After-least, In_default, In-Some, In-loop-x, then-has, else-has}

-- the set is that of the participants
alphabet : (c : After-least) → c.alphabet-alphabet.result.now ≡ c.args.closed.now.alphabet
alphabet c = c.alphabet-alphabet.ensures ∙ ap (λ (k : CompleteDfa). k.alphabet) c.dfa.ensures.value

whole : (c : After-least) → IsDistributed c.args.closed.now.alphabet
whole c = subst IsDistributed (alphabet c) c.processes-processes.ensures.whole

count : (c : After-least) → c.processes-processes.result ≡ c.args.closed.now.alphabet.processes
count c = c.processes-processes.ensures.value ∙ ap (λ (a : DistributedAlphabet). a.processes) (alphabet c)

participants : (c : After-least) → members c.loc-participants.result ≡ loc_of c.args.closed.now.alphabet c.args.a.0
participants c = ap members c.loc-participants.ensures ∙ ap (λ (a : DistributedAlphabet). loc_of a c.args.a.0) (alphabet c)

-- there is one
some : (c : After-least) → members c.loc-participants.result ≡ [] → true ≡ false
some c e = let p = (whole c).located.some c.args.a.0 c.requires.letter in sym p.1 ∙ ap (λ ps. has ps p.0) (sym (participants c) ∙ e)

none : (c : In_default) → members c.loc-participants.result ≡ []
none c = subst (λ (o : Option ℕ). MatchOption o (members c.loc-participants.result ≡ []) (IsLeastOf (members c.loc-participants.result)))
    c.in_default.is c.least.ensures

pub returns-in_default-clause-locals : goal.returns-in_default-clause-locals
returns-in_default-clause-locals c = absurd (let z = some (goal.at.returns-in_default-clause-locals c).After-least
    (none (goal.at.returns-in_default-clause-locals c).In_default) in cc)

pub returns-in_default-clause-shape : goal.returns-in_default-clause-shape
returns-in_default-clause-shape c = absurd (let z = some (goal.at.returns-in_default-clause-shape c).After-least
    (none (goal.at.returns-in_default-clause-shape c).In_default) in cc)

pub loop-x-init : goal.loop-x-init
loop-x-init c =
    let b = (goal.at.loop-x-init c).After-least in
    given-first c.args.closed.now c.args.a.0 c.args.fresh.now c.args.locals.now c.in-Some.least (whole b) c.requires.letter
    (λ q l. ap (λ ps. has ps q) (sym (participants b)) ∙ c.in-Some.ensures.below q l)

-- whether the process takes part, and that it is one
part : (c : After-least) (q : ℕ) → has (members c.loc-participants.result) q ≡ has (loc_of c.args.closed.now.alphabet c.args.a.0) q
part c q = ap (λ ps. has ps q) (participants c)

here : (c : In-loop-x) → c.loop-x.x < c.args.closed.now.alphabet.processes
here c = let n = count (goal.at.In-loop-x c).After-least in let t = c.loop-x-test.true in omega arith

pub copy_from-requires : goal.copy_from-requires
copy_from-requires c =
    let d = c.args.closed.now in
    let b = (goal.at.copy_from-requires c).After-least in
    let x : ℕ = c.loop-x.x in
    let own : LocalState = slice_index_or c.loop-x.locals x c.index-locals-x.result in
    let s = (c.loop-x.invariant c.requires.fresh.0 c.requires.fresh.1 c.requires.fresh.2).shapes x c.index-locals-x.result
    (here (goal.at.copy_from-requires c).In-loop-x) in
    let new : HasShape d.alphabet.processes d.states c.args.fresh.now =
    subst (HasShape d.alphabet.processes d.states) (sym (c.requires.fresh.2 x (sym (part b x) ∙ sym c.has.ensures ∙ c.if-has.true)))
    (shape-after d (c.requires.fresh.0 ++ c.args.a.0 ∷ []) x) in
    subst (λ m. HasShape m own.residues.states c.args.fresh.now) (sym s.gossip) (subst (λ k. HasShape d.alphabet.processes k c.args.fresh.now)
    (sym s.states) new)

pub loop-x-preserved : goal.loop-x-preserved
loop-x-preserved c =
    let d = c.args.closed.now in
    let b = (goal.at.loop-x-preserved c).After-least in
    let x : ℕ = c.loop-x.x in
    let l = here (goal.at.loop-x-preserved c).In-loop-x in
    let P : List LocalState → Type 0 = λ ls. AreHandedOut d c.args.a.0 c.args.fresh.now c.args.locals.now c.in-Some.least ls (x + 1) in
    elim c.if-has.branch [
      | then-has u ↦
          subst P (sym (u.locals-is ∙ ap (λ v. set c.loop-x.locals x v) u.copy_from.ensures))
          (given-part d c.args.a.0 c.args.fresh.now c.args.locals.now c.in-Some.least c.loop-x.locals x l (sym (part b x) ∙ sym c.has.ensures ∙ u.if-has.true)
          c.loop-x.invariant)
      | else-has u ↦
          subst P (sym u.locals-is)
          (given-other d c.args.a.0 c.args.fresh.now c.args.locals.now c.in-Some.least (whole b) c.requires.letter c.loop-x.locals x l (sym (part b x)
          ∙ sym c.has.ensures ∙ u.if-has.false) c.loop-x.invariant)
    ]

-- the least participant is a process
least-here : (c : In-Some) → (has (loc_of c.args.closed.now.alphabet c.args.a.0) c.in-Some.least ≡ true)
    × (c.in-Some.least < c.args.closed.now.alphabet.processes)
least-here c =
    let b = (goal.at.In-Some c).After-least in
    let p = sym (part b c.in-Some.least) ∙ c.in-Some.ensures.inside in
    (p, (whole b).located.below c.args.a.0 c.in-Some.least c.requires.letter p)

pub returns-clause-locals : goal.returns-clause-locals
returns-clause-locals c = λ w was f.
    let d = c.args.closed.now in
    let b = (goal.at.returns-clause-locals c).After-least in
    let p = least-here (goal.at.returns-clause-locals c).In-Some in
    let n = count b in
    let t = c.loop-x-test.false in
    let least : ℕ = c.in-Some.least in
    let P : LocalState → Type 0 = λ v. AreAllLocalsAfter d (w ++ c.args.a.0 ∷ []) (set c.loop-x.locals least v) in
    subst P (sym c.swap.ensures.x_after)
    (given-all d c.args.a.0 c.args.fresh.now c.args.locals.now least c.requires.letter c.loop-x.locals c.loop-x.x (omega arith) p.1 p.0 c.loop-x.invariant w
    was f)
