use Rattle.std.proofs.Common.{◌≡◌, ◌∷◌, [], length, sym, ap, subst, ◌∙◌, arith, inl, inr, ⊎_elim, length-append}
use Rattle.std.proofs.lemmas.List.Elements.{All-push, All-same}
use Rattle.za_hall.specs.Halls.{DeskState}
use Rattle.za_hall.specs.Halls.{IsOf}
use Rattle.za_runner.specs.Private.Lists.{promised}
use Rattle.za_runner.proofs.Moves.{of_same, moved, kept, split_all}
use Rattle.za_runner.proofs.running.start_all.Goals as goal

pub loop-desk-preserved-in-Ok : goal.loop-desk-preserved-in-Ok
loop-desk-preserved-in-Ok g c = let i = c.loop-desk.invariant in let d : DeskState = c.in-Some.desk in let items = c.in-Some.ensures.items in
    let h = c.in-Ok.handle in let pushed = c.push_reserved.ensures.items in
    let both = split_all (λ x. IsOf x c.args.hall.now) c.pop.new.self.items d c.loop-desk.desks.items items i.0 in
    let same : promised h ≡ d.number = ap (λ (x : DeskState). x.number) c.in-Ok.ensures.ok in (
      both.0,
      i.1,
      All-same (λ x. IsOf x.promise.0.value c.args.hall.now) _ _ pushed (All-push
          (λ x. IsOf x.promise.0.value c.args.hall.now) c.loop-desk.handles.items h i.2
          (subst (λ (x : DeskState). IsOf x c.args.hall.now) (sym c.in-Ok.ensures.ok) both.1)),
      λ p e. ⊎_elim
          (λ k. ⊎_elim inl (λ q. inr (inl q))
          (moved promised c.pop.new.self.items d p c.loop-desk.desks.items items c.loop-desk.handles.items c.push_reserved.new.self.items h pushed same k))
          (⊎_elim (λ k. inr (inl (kept promised c.pop.new.self.items d p c.loop-desk.handles.items c.push_reserved.new.self.items h pushed k)))
          (λ k. inr (inr k)))
          (i.3 p e),
      (let a = ap length items in let b = length-append c.pop.new.self.items (d ∷ []) in let x = ap length pushed in let y =
          length-append c.loop-desk.handles.items (h ∷ []) in let z = i.4 in omega arith),
      i.5,
      (let k = c.push_reserved.ensures.capacity in let z = i.6 in k ∙ z),
    )

pub loop-desk-preserved : goal.loop-desk-preserved
loop-desk-preserved g c = let i = c.loop-desk.invariant in let d : DeskState = c.in-Some.desk in let items = c.in-Some.ensures.items in
    let w : DeskState = c.in-Err.worked.desk in let s = c.in-Err.ensures.err.own in let pushed = c.push_reserved-in-Err.ensures.items in
    let both = split_all (λ x. IsOf x c.args.hall.now) c.pop.new.self.items d c.loop-desk.desks.items items i.0 in (
      both.0,
      All-same (λ x. IsOf x c.args.hall.now) _ _ pushed (All-push (λ x. IsOf x c.args.hall.now) c.loop-desk.mine.items w i.1 (of_same _ _ _ s both.1)),
      i.2,
      λ p e. ⊎_elim
          (λ k. ⊎_elim inl (λ q. inr (inr q)) (moved (λ
          (x : DeskState). x.number) c.pop.new.self.items d p c.loop-desk.desks.items items c.loop-desk.mine.items c.push_reserved-in-Err.new.self.items w
          pushed s.number k))
          (⊎_elim (λ k. inr (inl k)) (λ k. inr (inr (kept (λ
          (x : DeskState). x.number) c.pop.new.self.items d p c.loop-desk.mine.items c.push_reserved-in-Err.new.self.items w pushed k))))
          (i.3 p e),
      (let a = ap length items in let b = length-append c.pop.new.self.items (d ∷ []) in let x = ap length pushed in let y =
          length-append c.loop-desk.mine.items (w ∷ []) in let z = i.4 in omega arith),
      (let k = c.push_reserved-in-Err.ensures.capacity in let z = i.5 in k ∙ z),
      i.6,
    )
