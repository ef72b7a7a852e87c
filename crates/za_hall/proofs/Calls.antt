-- What a call of a desk tells, by its tries.
use Rattle.std.proofs.Common.{Bool, true, false, ◌≡◌, ◌↔◌, ℕ, List, inl, inr, ⊎_elim, length, refl, sym, ap, ◌∙◌, subst, Some, None}
use Rattle.za_hall.specs.declared.turn.Turn.{Turn}
use Rattle.za_hall.specs.declared.turn.Turn.TheVariants.{Fired, Ended, Over}
use Rattle.za_hall.specs.Views.{View}
use Rattle.za_hall.specs.Halls.{DeskState, fired}
use Rattle.za_hall.specs.Private.Serving.{Waited}
use Rattle.za_hall.specs.Answers.{IsLast, EndsStep, note_of, Says, Try, Call, GaveEnded, GaveFired}

same_turn : (s t : Turn) → Some s ≡ Some t → s ≡ t
same_turn s t e = cc

module _ (p : ℕ) (v : View) (turn : Turn) (w : View) where
  try_ended : Try p v (Some turn) w → (turn ≡ Ended) ↔ GaveEnded p w
  try_ended t = (λ e. subst (λ (s : Turn). Says p (Some s) v w) e t.says, λ g. same_turn turn Ended (t.ended g))

  try_fires : Try p v (Some turn) w → (at : ℕ) → (turn ≡ Fired at) ↔ GaveFired p v at w
  try_fires t at = (λ e. subst (λ (s : Turn). Says p (Some s) v w) e t.says, λ g. same_turn turn (Fired at) (t.fires at g))

-- the first of two tries has told of nothing
same_told : (p : ℕ) (v u : View) → Try p v None u → (note_of u).fired ≡ (note_of v).fired
same_told p v u t = t.fired

pub call_ended : (p : ℕ) (v : View) (turn : Turn) (w : View) → Call p v turn w → (turn ≡ Ended) ↔ GaveEnded p w
call_ended p v turn w c = ⊎_elim (λ t. try_ended p v turn w t) (λ t. try_ended p t.0 turn w t.2) c

pub call_fires : (p : ℕ) (v : View) (turn : Turn) (w : View) → Call p v turn w → (at : ℕ) → (turn ≡ Fired at) ↔ GaveFired p v at w
call_fires p v turn w c at = ⊎_elim (λ t. try_fires p v turn w t at)
    (λ t. subst (λ (fs : List ℕ). (turn ≡ Fired at) ↔ GaveOf fs) (same_told p v t.0 t.1) (try_fires p t.0 turn w t.2 at)) c
  where
    GaveOf : List ℕ → Type 0
    GaveOf fs = (w.found ≡ 0) × IsLast p (length fs) at w.gave

-- the last try of a waiting step, and those before it
module _ (old loop new : DeskState) (turn : Turn) (number : loop.number ≡ old.number) (told : fired loop ≡ fired old)
    (seen : loop.view.over ≡ true → (turn ≡ Over) × (new ≡ loop))
    (fires : (at : ℕ) → (turn ≡ Fired at) ↔ ((loop.view.over ≡ false) × GaveFired loop.number loop.view at new.view)) where
  moved : (at : ℕ) → GaveFired loop.number loop.view at new.view ≡ GaveFired old.number old.view at new.view
  moved at = let P : ℕ → List ℕ → Type 0 = λ p fs. (new.view.found ≡ 0) × IsLast p (length fs) at new.view.gave in λ i. P (number i) (told i)

  open_before : Waited old loop → loop.view.over ≡ false → old.view.over ≡ false
  open_before (inl e) f = ap (λ (d : DeskState). d.view.over) (sym e) ∙ f
  open_before (inr k) f = k.0

  step_back : (at : ℕ) → Waited old loop → (old.view.over ≡ false) × GaveFired old.number old.view at new.view → (b : Bool) → loop.view.over ≡ b
      → turn ≡ Fired at
  step_back at w g false b = (fires at).1 (b, subst (λ (T : Type 0). T) (sym (moved at)) g.1)
  step_back at (inl e) g true b = let z : true ≡ false = sym b ∙ (ap (λ (d : DeskState). d.view.over) e ∙ g.0) in absurd (cc)
  step_back at (inr k) g true b = absurd (k.1 at (subst (λ (d : DeskState). GaveFired old.number old.view at d.view) (seen b).1 g.1))

  pub step_fires : Waited old loop → (at : ℕ) → (turn ≡ Fired at) ↔ ((old.view.over ≡ false) × GaveFired old.number old.view at new.view)
  step_fires w at = (
    λ e. let f = (fires at).0 e in (open_before w f.0, subst (λ (T : Type 0). T) (moved at) f.1),
    λ g. step_back at w g loop.view.over refl,
  )

  open_loop : (had : Bool) → (EndsStep had turn → ⊥) → (b : Bool) → loop.view.over ≡ b → loop.view.over ≡ false
  open_loop had not true e = absurd (not (subst (EndsStep had) (sym (seen e).0) tt))
  open_loop had not false e = e

  -- a step that goes on has told of nothing
  pub step_on : Waited old loop → (had : Bool) → (EndsStep had turn → ⊥) → Waited old new
  step_on w had not = let f = open_loop had not loop.view.over refl in
      inr (open_before w f, λ at g. not (subst (EndsStep had) (sym ((fires at).1 (f, subst (λ (T : Type 0). T) (sym (moved at)) g))) tt))
