use Rattle.std.proofs.Common.{◌∷◌, [], length, slice_index, sym, ap, subst, ◌∙◌, arith, length-append}
use Rattle.std.proofs.lemmas.List.{get_or-replicate, length-replicate}
use Rattle.za_script.proofs.Standing.{Stands, stands-start, stands-step, stands-room, stands-end, stands-whole}
use Rattle.za_script.proofs.woven.weave.Goals as goal

pub loop-a-init : goal.loop-a-init
loop-a-init c =
    let n = length c.args.scripts.now in
    let same = c.requires.processes in
    let places = c.in_ok-weaving.ensures.places in
    let size = ap length places ∙ length-replicate n 0 in
    subst (λ w. Stands c.args.alphabet.now c.args.scripts.now c.in_ok-weaving.weaving.places.items c.in_ok-weaving.weaving.sets.items w)
    (sym c.new-word.ensures)
    (stands-start c.args.alphabet.now c.args.scripts.now c.in_ok-weaving.ensures.alphabet.located c.requires c.in_ok-weaving.weaving.places.items
    c.in_ok-weaving.weaving.sets.items (size ∙ same) (omega (arith, c.in_ok-weaving.ensures.letters))
    (λ p l. ap (λ xs. slice_index xs p) places ∙ get_or-replicate n p 0 0 (omega arith)) c.in_ok-weaving.ensures.ready)

pub loop-a-smaller : goal.loop-a-smaller
loop-a-smaller c =
    let al = c.in_ok-weaving.ensures.alphabet.located in
    let room = stands-room c.args.alphabet.now c.args.scripts.now al c.requires c.loop-a.weaving.places.items c.loop-a.weaving.sets.items c.loop-a.word
    c.in-Some.a.0 c.loop-a.invariant c.in-Some.ensures in
    let longer = ap length c.in_ok-push.ensures.ok ∙ length-append c.loop-a.word (c.in-Some.a.0 ∷ []) in omega arith

pub loop-a-preserved : goal.loop-a-preserved
loop-a-preserved c =
    let al = c.in_ok-weaving.ensures.alphabet.located in
    subst (λ w. Stands c.args.alphabet.now c.args.scripts.now c.fire.new.self.places.items c.fire.new.self.sets.items w) (sym c.in_ok-push.ensures.ok)
    (stands-step c.args.alphabet.now c.args.scripts.now al c.requires c.loop-a.weaving.places.items c.fire.new.self.places.items c.loop-a.weaving.sets.items
    c.fire.new.self.sets.items
    c.loop-a.word c.in-Some.a.0 c.loop-a.invariant c.in-Some.ensures (omega arith) (omega arith) c.fire.ensures.moved c.fire.ensures.ready)

pub returns-clause-weave : goal.returns-clause-weave
returns-clause-weave c = record {
  word = stands-end c.args.alphabet.now c.args.scripts.now c.in_ok-weaving.ensures.alphabet.located c.requires c.loop-a.weaving.places.items
      c.loop-a.weaving.sets.items c.loop-a.word c.loop-a.invariant c.in_default.ensures;
  processes = c.loop-a.invariant.size;
  counts = c.loop-a.invariant.seen;
}

pub returns-clause-whole : goal.returns-clause-whole
returns-clause-whole c =
    let whole = stands-whole c.args.alphabet.now c.args.scripts.now c.in_ok-weaving.ensures.alphabet.located c.requires c.loop-a.weaving.places.items
    c.loop-a.weaving.sets.items c.loop-a.word c.loop-a.invariant in
    (λ t. whole.0 (c.is_done-whole.ensures.0 t), λ w. c.is_done-whole.ensures.1 (whole.1 w))
