use Rattle.std.proofs.Common.{subst, sym, ◌≡◌, ℕ, ◌++◌, ◌∷◌, [], List, length, length-append, Option, Some, None, MatchOption, ap, arith, Bool, true, false}
use Rattle.std.proofs.Common.{refl, inl, inr}
use Rattle.za_machine.specs.Machine.{fired_by, is_in}
use Rattle.za_table.specs.Tables.{TableState}
use Rattle.za_hall.specs.Own.{machine}
use Rattle.za_hall.specs.Places.{places}
use Rattle.za_hall.specs.Answers.{IsLast}
use Rattle.za_hall.proofs.Letters.{length_places, last_is_last}
use Rattle.za_hall.proofs.serving.untold.Goals as goal

off : (b : Bool) → ((b ≡ true) → ⊥) → b ≡ false
off true f = absurd (f refl)
off false f = refl

pub returns-then-told-count : goal.returns-then-told-count
returns-then-told-count c = go c.fired_at.result (subst (λ (o : Option ℕ). MatchOption o (places (machine t) p t.state.journal ≡ []) (λ k. (ks : List ℕ) ×
    (places (machine t) p t.state.journal ≡ ks ++ k ∷ []))) (sym c.fired_at.ensures)
    (last_is_last (machine t) p t.state.journal))
  where
    p : ℕ
    p = c.args.process

    t : TableState
    t = c.args.table.now

    go : (o : Option ℕ) → MatchOption o (places (machine t) p t.state.journal ≡ []) (λ k. (ks : List ℕ) × (places (machine t) p t.state.journal ≡ ks ++ k ∷ []))
        → MatchOption o (fired_by (machine t) t.state.journal p ≡ c.args.told) (λ k. IsLast p c.args.told k t × (is_in t.state.arrived p ≡ false)
        × (is_in t.state.ended p ≡ false))
    go None e = let l = length_places (machine t) p t.state.journal in let m = ap length e in let h = c.if-told-count.true in let s = c.count.ensures in
        absurd (omega arith)
    go (Some k) h = let l = length_places (machine t) p t.state.journal in let m = ap length h.1 in let a = length-append h.0 (k ∷ []) in let u =
        c.if-told-count.true in let s = c.count.ensures in let b = c.requires.told.1 in (
          (h.0, h.1, omega arith),
          off (is_in t.state.arrived p) (λ e. let z = c.requires.whole (inl e) in omega arith),
          off (is_in t.state.ended p) (λ e. let z = c.requires.whole (inr e) in omega arith),
        )
