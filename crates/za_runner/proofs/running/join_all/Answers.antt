use Rattle.std.proofs.Common.{◌≡◌, ◌∷◌, [], length, map, sym, ap, subst, ◌∙◌, arith, inl, inr, ⊎_elim, true, length-append}
use Rattle.std.proofs.lemmas.List.Elements.{All-push, All-same}
use Rattle.za_alpha.specs.Words.{has}
use Rattle.za_hall.specs.Halls.{DeskState}
use Rattle.za_hall.specs.Halls.{IsOf}
use Rattle.za_runner.specs.Private.Lists.{desk_numbers, promised}
use Rattle.za_runner.proofs.Moves.{of_same, has_case, has_last, kept, split_all}
use Rattle.za_runner.proofs.running.join_all.Goals as goal

pub loop-handle-preserved : goal.loop-handle-preserved
loop-handle-preserved g c = let i = c.loop-handle.invariant in let h = c.in-Some.handle in let items = c.in-Some.ensures.items in
    let w : DeskState = c.join-desk.result.desk in let s = c.join-desk.ensures.own in let pushed = c.push_reserved.ensures.items in
    let both = split_all (λ x. IsOf x.promise.0.value c.args.hall.now) c.pop.new.self.items h c.loop-handle.handles.items items i.1 in (
      All-same (λ x. IsOf x c.args.hall.now) _ _ pushed (All-push (λ x. IsOf x c.args.hall.now) c.loop-handle.mine.items w i.0 (of_same _ _ _ s both.1)),
      both.0,
      (let a = ap length items in let b = length-append c.pop.new.self.items (h ∷ []) in let x = ap length pushed in let y =
          length-append c.loop-handle.mine.items (w ∷ []) in let k = c.push_reserved.ensures.capacity in let z = i.2 in omega arith),
      λ p e. ⊎_elim
          (λ k. ⊎_elim inl (λ q. inr (subst (λ ds. has (desk_numbers ds) p ≡ true) (sym pushed)
          (has_last (λ (x : DeskState). x.number) c.loop-handle.mine.items w p (s.number ∙ q))))
          (has_case promised c.pop.new.self.items h p (subst (λ hs. has (map promised hs) p ≡ true) items k)))
          (λ k. inr (kept (λ (x : DeskState). x.number) c.loop-handle.mine.items w p c.loop-handle.mine.items c.push_reserved.new.self.items w pushed k))
          (i.3 p e),
    )
