use Rattle.std.proofs.Common.{ℕ, List, set, length, slice_index, sym, ap, ◌∙◌, arith, Vec, Global, vec_capacity, length-set}
use Rattle.za_alpha.specs.Procs.{members}
use Rattle.za_local.specs.Locals.{LocalState}
use Rattle.za_shared.proofs.Giving.{given-in, given-out, changed-step, changed-same}
use Rattle.za_shared.proofs.Shelves.{one-self}
use Rattle.za_shared.proofs.seats.give.Goals as goal
use Rattle.za_shared.proofs.seats.give.Goals.{then-has, else-has}

pub loop-p-preserved : goal.loop-p-preserved
loop-p-preserved c =
    let ps = members c.args.processes in
    let key : ℕ = c.args.key in
    let p : ℕ = c.loop-p.p in
    let keys = c.args.keys.now in
    let size = c.loop-p.invariant.size in
    let t = c.loop-p-test.true in
    elim c.if-has.branch [
      | then-has w ↦ record {
        size = ap length w.keys-is ∙ length-set c.loop-p.keys p key ∙ size;
        keys = λ q. ap (λ (ks : List ℕ). slice_index ks q) w.keys-is
            ∙ given-in ps key p keys q c.loop-p.keys (sym c.has.ensures ∙ w.if-has.true) (omega arith) (c.loop-p.invariant.keys q);
        changed = changed-same c.args.shelf.now w.let_go.new.shelf c.if-has.shelf c.args.spares.now.items w.let_go.new.spares.items c.if-has.spares.items keys
            (set c.loop-p.keys p key) c.if-has.keys
            w.shelf-is (ap (λ (v : Vec LocalState Global). v.items) w.spares-is) w.keys-is
            (changed-step c.args.shelf.now c.loop-p.shelf w.hold.new.shelf w.let_go.new.shelf c.args.spares.now.items c.loop-p.spares.items
            w.let_go.new.spares.items keys c.loop-p.keys p key (omega arith)
            c.loop-p.invariant.changed (let h = c.requires.held key in let e = c.loop-p.invariant.changed.counts key in let o = one-self key in
            omega arith) w.hold.ensures w.let_go.ensures.fewer);
        capacity = ap (λ (v : Vec LocalState Global). vec_capacity v) w.spares-is ∙ w.let_go.ensures.capacity ∙ c.loop-p.invariant.capacity;
      }
      | else-has w ↦ record {
        size = ap length w.keys-is ∙ size;
        keys = λ q. ap (λ (ks : List ℕ). slice_index ks q) w.keys-is
            ∙ given-out ps key p keys q c.loop-p.keys (sym c.has.ensures ∙ w.if-has.false) (c.loop-p.invariant.keys q);
        changed = changed-same c.args.shelf.now c.loop-p.shelf c.if-has.shelf c.args.spares.now.items c.loop-p.spares.items c.if-has.spares.items keys
            c.loop-p.keys c.if-has.keys
            w.shelf-is (ap (λ (v : Vec LocalState Global). v.items) w.spares-is) w.keys-is c.loop-p.invariant.changed;
        capacity = ap (λ (v : Vec LocalState Global). vec_capacity v) w.spares-is ∙ c.loop-p.invariant.capacity;
      }
    ]
