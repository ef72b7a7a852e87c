use Rattle.za_form.proofs.Sets.{masks_more}
use Rattle.za_form.proofs.steps.masks_of.Goals as goal

pub loop-a-preserved : goal.loop-a-preserved
loop-a-preserved c = masks_more c.args.form.now c.loop-a.a c.mask_of.result c.loop-a.masks.items c.push.new.self.items c.loop-a.invariant c.mask_of.ensures
    c.in_ok-push.ensures.items
