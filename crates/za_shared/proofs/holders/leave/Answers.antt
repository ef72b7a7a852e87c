use Rattle.std.proofs.Common.{arith}
use Rattle.za_shared.proofs.Leaving.{left-none, left-step, left-some, left-all}
use Rattle.za_shared.proofs.holders.leave.Goals as goal

pub loop-i-init : goal.loop-i-init
loop-i-init c = left-none c.args.shelf.now c.args.keys.now

pub leave_one-requires : goal.leave_one-requires
leave_one-requires c = left-some c.args.keys.now c.loop-i.i c.loop-i-test.true c.args.shelf.now c.loop-i.shelf c.requires c.loop-i.invariant

pub loop-i-preserved : goal.loop-i-preserved
loop-i-preserved c =
    left-step c.args.keys.now c.loop-i.i c.loop-i-test.true c.args.shelf.now c.loop-i.shelf c.leave_one.new.shelf c.loop-i.invariant c.leave_one.ensures

pub returns : goal.returns
returns c =
    left-all c.args.keys.now c.loop-i.i c.args.shelf.now c.loop-i.shelf (let t = c.loop-i-test.false in let e = c.loop-i.auto.i-end in omega arith)
    c.loop-i.invariant
