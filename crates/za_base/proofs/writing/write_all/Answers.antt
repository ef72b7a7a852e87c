use Rattle.std.proofs.Common.{◌-◌, length, drop, ◌∙◌, arith, length-drop}
use Rattle.std.proofs.lemmas.List.{length-take}
use Rattle.za_base.proofs.Streams.{appends_more}
use Rattle.za_base.proofs.writing.write_all.Goals as goal

pub turns-preserved : goal.turns-preserved
turns-preserved g c =
    let text = c.args.text.now in
    let at = c.turns.at in
    record {
      within = omega (arith, c.in-Ok.ensures.within, length-take (length text - at) (drop at text), length-drop at text);
      written = appends_more _ _ _ text at c.in-Ok.n c.turns.invariant.written c.in-Ok.ensures.bytes;
      stays = c.in-Ok.ensures.stays ∙ c.turns.invariant.stays;
    }
