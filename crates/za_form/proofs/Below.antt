-- Each sign adds at most one !.
use Rattle.std.proofs.Common.{◌≡◌, ℕ, suc, ◌+◌, ◌<◌, List, [], ◌∷◌, Some, subst, arith}
use Rattle.za_expression.specs.declared.sign.Sign.{Sign}
use Rattle.za_expression.specs.declared.sign.Sign.TheVariants.{Name, Empty, Open, Close, Begin, End, Bar, Times, Ampersand, Bang}
use Rattle.za_expression.specs.Forms.{Form}
use Rattle.za_expression.specs.Private.Machine.{Frame, Now, Fresh, Plainly, Closed, Stack, form_here, fresh_frame, pops, with_now, now_step, plain_step, step}
use Rattle.za_expression.proofs.Sound.{bound}
use Rattle.za_form.specs.Private.Stacks.{FramesAreBelow, IsStackBelow}

wider : (n : ℕ) (fs : List Frame) → FramesAreBelow n fs → FramesAreBelow (n + 1) fs
wider n [] h = tt
wider n (f ∷ fs) h = let a = h.0 in (omega arith, wider n fs h.1)

plain_below : (n at : ℕ) (t : Sign) (s u : Stack) → IsStackBelow n s → plain_step at s t ≡ Some u → IsStackBelow (n + 1) u
plain_below n at t s u b h =
    let k = bound (now_step at s.now t) (λ now. Some (with_now s.frame s.outer now)) u h in
    let g = k.gives in
    let e : with_now s.frame s.outer k.value ≡ u = cc in
    let a = b.here in
    let out : IsStackBelow (n + 1) (with_now s.frame s.outer k.value) = record { here = omega arith; outside = wider n s.outer b.outside } in
    subst (λ x. IsStackBelow (n + 1) x) e out

bang_below : (n at : ℕ) (now : Now) (frame : Frame) (outer : List Frame) (u : Stack) → IsStackBelow n (with_now frame outer now) →
    step at (with_now frame outer now) Bang ≡ Some u → IsStackBelow (n + 1) u
bang_below n at Fresh frame outer u b h =
    let more : Frame = record { left = frame.left; nots = suc frame.nots } in
    let e : with_now more outer Fresh ≡ u = cc in
    let a = b.here in
    let out : IsStackBelow (n + 1) (with_now more outer Fresh) = record { here = omega arith; outside = wider n outer b.outside } in
    subst (λ x. IsStackBelow (n + 1) x) e out
bang_below n at (Plainly l groups) frame outer u b h = cc
bang_below n at (Closed f) frame outer u b h = cc

begin_below : (n at : ℕ) (now : Now) (frame : Frame) (outer : List Frame) (u : Stack) → IsStackBelow n (with_now frame outer now) →
    step at (with_now frame outer now) Begin ≡ Some u → IsStackBelow (n + 1) u
begin_below n at Fresh frame outer u b h =
    let e : with_now fresh_frame (frame ∷ outer) Fresh ≡ u = cc in
    let a = b.here in
    let here : frame.nots < n + 1 = omega arith in
    let out : IsStackBelow (n + 1) (with_now fresh_frame (frame ∷ outer) Fresh) = record { here = omega arith; outside = (here, wider n outer b.outside) } in
    subst (λ x. IsStackBelow (n + 1) x) e out
begin_below n at (Plainly l groups) frame outer u b h = cc
begin_below n at (Closed f) frame outer u b h = cc

pop_below : (n : ℕ) (f : Form) (outer : List Frame) (u : Stack) → FramesAreBelow n outer → pops f outer ≡ Some u → IsStackBelow (n + 1) u
pop_below n f [] u b h = cc
pop_below n f (frame ∷ outer) u b h =
    let e : with_now frame outer (Closed f) ≡ u = cc in
    let a = b.0 in
    let out : IsStackBelow (n + 1) (with_now frame outer (Closed f)) = record { here = omega arith; outside = wider n outer b.1 } in
    subst (λ x. IsStackBelow (n + 1) x) e out

pub below : (n at : ℕ) (t : Sign) (s u : Stack) → IsStackBelow n s → step at s t ≡ Some u → IsStackBelow (n + 1) u
below n at Bang s u b h = bang_below n at s.now s.frame s.outer u b h
below n at Begin s u b h = begin_below n at s.now s.frame s.outer u b h
below n at End s u b h = let k = bound (form_here s.now s.frame) (λ f. pops f s.outer) u h in pop_below n k.value s.outer u b.outside k.gives
below n at Ampersand s u b h =
    let k = bound (form_here s.now s.frame) (λ f. Some (with_now (record { left = Some f; nots = 0 }) s.outer Fresh)) u h in
    let g = k.gives in
    let next : Frame = record { left = Some k.value; nots = 0 } in
    let e : with_now next s.outer Fresh ≡ u = cc in
    let a = b.here in
    let out : IsStackBelow (n + 1) (with_now next s.outer Fresh) = record { here = omega arith; outside = wider n s.outer b.outside } in
    subst (λ x. IsStackBelow (n + 1) x) e out
below n at (Name a) s u b h = plain_below n at (Name a) s u b h
below n at Empty s u b h = plain_below n at Empty s u b h
below n at Open s u b h = plain_below n at Open s u b h
below n at Close s u b h = plain_below n at Close s u b h
below n at Bar s u b h = plain_below n at Bar s u b h
below n at Times s u b h = plain_below n at Times s u b h
