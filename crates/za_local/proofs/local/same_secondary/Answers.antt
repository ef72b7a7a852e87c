use Rattle.std.proofs.Common.{ℕ, ◌*◌, length, sym, ap, ◌∙◌, refl, arith}
use Rattle.std.proofs.lemmas.List.{length-map}
use Rattle.za_ids.specs.declared.ids.EventId.{EventId}
use Rattle.za_gossip.specs.Rows.{block_at}
use Rattle.za_local.proofs.Blocks.{blocks-decide}
use Rattle.za_local.proofs.local.same_secondary.Goals as goal

pub returns : goal.returns
returns c =
    let n : ℕ = length c.args.a.now.primary in
    let same = c.requires.processes in
    let long = sym (length-map c.primary-q-end.result.now (λ (id : EventId). id.0)) ∙ ap length c.primary-q-end.ensures.value in
    let t = c.loop-q-test.false in (
      (λ h. blocks-decide n n c.args.a.now.secondary c.args.b.now.secondary c.requires.first.secondary (c.requires.second.secondary
          ∙ ap (λ m. m * m) (sym same))
          (λ q l. c.loop-q.invariant q (omega arith) ∙ ap (λ m. block_at m c.args.b.now.secondary q) (sym same))),
      (λ h. refl),
    )
