use Rattle.std.proofs.Common.{◌≡◌, ◌+◌, ◌∷◌, [], ◌++◌, ◌<◌, List, ℕ, length, take, drop, get_or, sym, ap, subst, ◌∙◌, arith}
use Rattle.std.proofs.lemmas.List.{take_more, map-append, take_all, take_at}
use Rattle.za_alpha.specs.declared.word.Letter.{Letter}
use Rattle.za_alpha.specs.Letters.{numbers}
use Rattle.za_alpha.proofs.Projections.{letter-within}
use Rattle.za_local.specs.Locals.{AreAllLocalsAfter, HasShape}
use Rattle.za_local.specs.Benches.{LocalStates}
use Rattle.za_local.proofs.Given.{locals-length}
use Rattle.za_local.proofs.Shapes.{shape-after}
use Rattle.za_freeze.proofs.playing.locals_after.Goals as goal

pub loop-a-init : goal.loop-a-init
loop-a-init c =
    let d = c.args.closed.now in
    record {
      locals = c.in_ok-locals.ensures;
      processes = ap (λ (b : LocalStates). b.processes) c.in_ok-bench.ensures;
      states = ap (λ (b : LocalStates). b.states) c.in_ok-bench.ensures;
      fresh = subst (HasShape d.alphabet.processes d.states) (sym (c.in_ok-fresh.ensures 0)) (shape-after d [] 0);
    }

pub fire_on-requires-clause-letter : goal.fire_on-requires-clause-letter
fire_on-requires-clause-letter c = letter-within (length c.args.closed.now.alphabet.letters) c.args.letters.now c.loop-a.a-index _ c.requires (omega arith)

pub fire_on-requires-clause-locals : goal.fire_on-requires-clause-locals
fire_on-requires-clause-locals c =
    let w = numbers (take c.loop-a.a-index c.args.letters.now) in
    (w, subst (AreAllLocalsAfter c.args.closed.now w) (sym c.as_mut_slice.ensures.value) c.loop-a.invariant.locals)

-- the letters so far and one more
letters-more : (letters : List Letter) (i : ℕ) → i < length letters →
    numbers (take i letters) ++ (get_or letters i (record { 0 = 0 })).0 ∷ [] ≡ numbers (take (i + 1) letters)
letters-more letters i l =
    sym (ap numbers (take_more letters i (record { 0 = 0 }) l) ∙ map-append (λ (a : Letter). a.0) (take i letters) (get_or letters i (record { 0 = 0 }) ∷ []))

pub loop-a-preserved : goal.loop-a-preserved
loop-a-preserved c =
    let d = c.args.closed.now in
    let i : ℕ = c.loop-a.a-index in
    let letters = c.args.letters.now in
    let w = numbers (take i letters) in
    let was = c.loop-a.invariant.locals in
    let fired = c.fire_on.ensures.locals w (subst (AreAllLocalsAfter d w) (sym c.as_mut_slice.ensures.value) was) in
    let new = c.fire_on.new.locals in
    let old = c.loop-a.locals.items in
    let long = locals-length d w old was in
    let same = locals-length d _ new fired in
    let value = ap length c.as_mut_slice.ensures.value in
    let len = c.as_mut_slice.ensures.len in
    let all = take_at new (drop (length new) old) c.loop-a.locals.len (omega arith) in
    record {
      locals = subst (AreAllLocalsAfter d (numbers (take (i + 1) letters))) (sym all)
          (subst (λ v. AreAllLocalsAfter d v new) (letters-more letters i (omega arith)) fired);
      processes = c.fire_on.ensures.processes;
      states = c.fire_on.ensures.states;
      fresh = c.fire_on.ensures.shape;
    }

pub returns : goal.returns
returns c =
    subst (λ (xs : List Letter). AreAllLocalsAfter c.args.closed.now (numbers xs) c.loop-a.locals.items)
    (take_all c.loop-a.a-index c.args.letters.now (omega arith))
    c.loop-a.invariant.locals
