-- What the grammar derives is read.
use Rattle.std.proofs.Common.{◌≡◌, ℕ, zero, suc, ◌+◌, List, [], ◌∷◌, ◌++◌, Option, Some, None, length, refl, sym, ap, subst, ◌∙◌, arith}
use Rattle.za_expression.specs.declared.sign.Sign.{Sign}
use Rattle.za_expression.specs.declared.sign.Sign.TheVariants.{Close, End, Bar, Times, Ampersand}
use Rattle.za_expression.specs.Plain.{Plain}
use Rattle.za_expression.specs.Forms.{Form, Part, Not}
use Rattle.za_expression.specs.Grammar.{Rank, Atom, Item, Product, Sum, Reads, Named, EmptyWord, Group, Bare, Starred, Single, Next, Alone, Other, Level, Unary}
use Rattle.za_expression.specs.Grammar.{Whole, Derives, Plainly as IsPlain, Denied, Braced, Only, Joined, IsForm}
use Rattle.za_expression.specs.Private.Machine.{Layer, Frame, Now, Fresh, Plainly, Closed, Stack, empty_layer, then_item, or_product, and_unary, denied, bind}
use Rattle.za_expression.specs.Private.Machine.{product_of, sum_of, with_item, unary_of, form_here, pops, with_now, step, read_from, ended, parsed}

pub read_from-append : (at : ℕ) (s : Stack) (us vs : List Sign) → read_from at s (us ++ vs) ≡ bind (read_from at s us) (λ t. read_from (at + length us) t vs)
read_from-append at s [] vs = ap (λ x. read_from x s vs) (let e : at ≡ at + 0 = omega arith in e)
read_from-append at s (t ∷ us) vs =
    elim (step at s t) as
    (λ o. bind o (λ u. read_from (at + 1) u (us ++ vs)) ≡ bind (bind o (λ u. read_from (at + 1) u us)) (λ u. read_from (at + length (t ∷ us)) u vs)) [
      | None ↦ refl
      | Some u ↦ read_from-append (at + 1) u us vs ∙
          ap (λ x. bind (read_from (at + 1) u us) (λ w. read_from x w vs)) (let e : at + 1 + length us ≡ at + length (t ∷ us) = omega arith in e)
    ]

-- one read_from after another
pub then_run : (at : ℕ) (s t w : Stack) (us vs : List Sign) → read_from at s us ≡ Some t → read_from (at + length us) t vs ≡ Some w → read_from at s
    (us ++ vs) ≡ Some w
then_run at s t w us vs h k = read_from-append at s us vs ∙ (ap (λ o. bind o (λ x. read_from (at + length us) x vs)) h ∙ k)

abbrev pub on : Layer → List Layer → Frame → List Frame → Stack
on l groups frame outer = record { now = Plainly l groups; frame = frame; outer = outer }

abbrev pub after_bar : Option Plain → Layer
after_bar s = record { sums = s; items = None; last = None }

pub record Ends (at : ℕ) (s : Stack) (ts : List Sign) (groups : List Layer) (frame : Frame) (outer : List Frame) : Type 0 where
  pub layer : Layer
  pub runs : read_from at s ts ≡ Some (on layer groups frame outer)

abbrev pub Runs : Rank → ℕ → List Sign → Plain → Type 0
Runs Atom at ts e = (l : Layer) (groups : List Layer) (frame : Frame) (outer : List Frame) →
    read_from at (on l groups frame outer) ts ≡ Some (on (with_item l e) groups frame outer)
Runs Item at ts e = (l : Layer) (groups : List Layer) (frame : Frame) (outer : List Frame) →
    read_from at (on l groups frame outer) ts ≡ Some (on (with_item l e) groups frame outer)
Runs Product at ts e = (sums : Option Plain) (groups : List Layer) (frame : Frame) (outer : List Frame) →
    (r : Ends at (on (after_bar sums) groups frame outer) ts groups frame outer) × (product_of r.layer ≡ Some e) × (r.layer.sums ≡ sums)
Runs Sum at ts e = (groups : List Layer) (frame : Frame) (outer : List Frame) →
    (r : Ends at (on empty_layer groups frame outer) ts groups frame outer) × (sum_of r.layer ≡ Some e)

sum_from_product : (l : Layer) (e : Plain) (s : Option Plain) → product_of l ≡ Some e → l.sums ≡ s → sum_of l ≡ Some (or_product s e)
sum_from_product l e s h k = as_bind l.last ∙ (ap (λ o. bind o (λ c. Some (or_product l.sums c))) h ∙ ap (λ x. Some (or_product x e)) k)
  where
    as_bind : (o : Option Plain) →
        bind o (λ x. Some (or_product l.sums (then_item l.items x))) ≡ bind (bind o (λ x. Some (then_item l.items x))) (λ c. Some (or_product l.sums c))
    as_bind None = refl
    as_bind (Some x) = refl

pub reads_run : (r : Rank) (at : ℕ) (ts : List Sign) (e : Plain) → Reads r at ts e → Runs r at ts e
reads_run r at ts e (Named a) = λ l groups frame outer. refl
reads_run r at ts e EmptyWord = λ l groups frame outer. refl
reads_run r at ts e (Group us h z) =
    let f = reads_run Sum (at + 1) us e h in
    λ l groups frame outer.
    let k = f (l ∷ groups) frame outer in
    let close : read_from (at + 1 + length us) (on k.0.layer (l ∷ groups) frame outer) (Close ∷ []) ≡ Some (on (with_item l e) groups frame outer) =
    ap (λ (o : Option Plain). bind {B = Stack} (bind (bind o (λ x. Some (Plainly (with_item l x) groups))) (λ now. Some (with_now frame outer now)))
    (λ u. Some u)) k.1 in
    subst (λ x. read_from at (on l groups frame outer) x ≡ Some (on (with_item l e) groups frame outer)) (sym z)
    (then_run (at + 1) (on empty_layer (l ∷ groups) frame outer) (on k.0.layer (l ∷ groups) frame outer) (on (with_item l e) groups frame outer) us
    (Close ∷ []) k.0.runs close)
reads_run r at ts e (Bare h) = reads_run Atom at ts e h
reads_run r at ts e (Starred us h z) =
    λ l groups frame outer.
    subst (λ x. read_from at (on l groups frame outer) x ≡ Some (on (with_item l e) groups frame outer)) (sym z)
    (then_run at (on l groups frame outer) (on (with_item l _) groups frame outer) (on (with_item l e) groups frame outer) us (Times ∷ [])
    (reads_run Item at us _ h l groups frame outer) refl)
reads_run r at ts e (Single h) =
    let f = reads_run Item at ts e h in
    λ sums groups frame outer. (record { layer = with_item (after_bar sums) e; runs = f (after_bar sums) groups frame outer }, refl, refl)
reads_run r at ts e (Next {d = d} {e = c} us vs h k z) =
    λ sums groups frame outer.
    let a = reads_run Product at us d h sums groups frame outer in
    let b = reads_run Item (at + length us) vs c k a.0.layer groups frame outer in (
      record {
        layer = with_item a.0.layer c;
        runs = subst (λ x. read_from at (on (after_bar sums) groups frame outer) x ≡ Some (on (with_item a.0.layer c) groups frame outer)) (sym z)
            (then_run at (on (after_bar sums) groups frame outer) (on a.0.layer groups frame outer)
            (on (with_item a.0.layer c) groups frame outer) us vs a.0.runs b);
      },
      ap (λ o. Some (then_item o c)) a.1,
      a.2,
    )
reads_run r at ts e (Alone h) =
    λ groups frame outer.
    let a = reads_run Product at ts e h None groups frame outer in
    (a.0, sum_from_product a.0.layer e None a.1 a.2)
reads_run r at ts e (Other {d = d} {e = c} us vs h k z) =
    λ groups frame outer.
    let a = reads_run Sum at us d h groups frame outer in
    let bar : read_from (at + length us) (on a.0.layer groups frame outer) (Bar ∷ []) ≡ Some (on (after_bar (Some d)) groups frame outer) =
    ap (λ (o : Option Plain). bind {B =
    Stack} (bind (bind (bind o (λ x. Some (after_bar (Some x)))) (λ m. Some (Plainly m groups))) (λ now. Some (with_now frame outer now))) (λ u. Some u))
    a.1 in
    let b = reads_run Product (at + length us + 1) vs c k (Some d) groups frame outer in
    let rest : read_from (at + length us) (on a.0.layer groups frame outer) (Bar ∷ vs) ≡ Some (on b.0.layer groups frame outer) =
    then_run (at + length us) (on a.0.layer groups frame outer) (on (after_bar (Some d)) groups frame outer) (on b.0.layer groups frame outer)
    (Bar ∷ []) vs bar b.0.runs in (
      record {
        layer = b.0.layer;
        runs = subst (λ x. read_from at (on empty_layer groups frame outer) x ≡ Some (on b.0.layer groups frame outer)) (sym z)
            (then_run at (on empty_layer groups frame outer) (on a.0.layer groups frame outer) (on b.0.layer groups frame outer) us (Bar ∷ vs) a.0.runs rest);
      },
      sum_from_product b.0.layer c (Some d) b.1 b.2,
    )

-- the first token of a plain stands at a fresh unary as at an empty layer
abbrev pub fresh : Option Form → ℕ → List Frame → Stack
fresh left nots outer = record { now = Fresh; frame = record { left = left; nots = nots }; outer = outer }

longer : (at : ℕ) (us vs ts : List Sign) (left : Option Form) (nots : ℕ) (outer : List Frame) → ts ≡ us ++ vs →
    read_from at (fresh left nots outer) us ≡ read_from at (on empty_layer [] (record { left = left; nots = nots }) outer) us →
    read_from at (fresh left nots outer) ts ≡ read_from at (on empty_layer [] (record { left = left; nots = nots }) outer) ts
longer at us vs ts left nots outer z h =
    let frame : Frame = record { left = left; nots = nots } in
    subst (λ x. read_from at (fresh left nots outer) x ≡ read_from at (on empty_layer [] frame outer) x) (sym z)
    (read_from-append at (fresh left nots outer) us vs ∙
    (ap (λ o. bind o (λ t. read_from (at + length us) t vs)) h ∙ sym (read_from-append at (on empty_layer [] frame outer) us vs)))

from_fresh : (r : Rank) (at : ℕ) (ts : List Sign) (e : Plain) → Reads r at ts e → (left : Option Form) (nots : ℕ) (outer : List Frame) →
    read_from at (fresh left nots outer) ts ≡ read_from at (on empty_layer [] (record { left = left; nots = nots }) outer) ts
from_fresh r at ts e (Named a) left nots outer = refl
from_fresh r at ts e EmptyWord left nots outer = refl
from_fresh r at ts e (Group us h z) left nots outer =
    subst (λ x. read_from at (fresh left nots outer) x ≡ read_from at (on empty_layer [] (record { left = left; nots = nots }) outer) x) (sym z) refl
from_fresh r at ts e (Bare h) left nots outer = from_fresh Atom at ts e h left nots outer
from_fresh r at ts e (Starred {e = d} us h z) left nots outer = longer at us (Times ∷ []) ts left nots outer z (from_fresh Item at us d h left nots outer)
from_fresh r at ts e (Single h) left nots outer = from_fresh Item at ts e h left nots outer
from_fresh r at ts e (Next {d = d} us vs h k z) left nots outer = longer at us vs ts left nots outer z (from_fresh Product at us d h left nots outer)
from_fresh r at ts e (Alone h) left nots outer = from_fresh Product at ts e h left nots outer
from_fresh r at ts e (Other {d = d} us vs h k z) left nots outer = longer at us (Bar ∷ vs) ts left nots outer z (from_fresh Sum at us d h left nots outer)

denied-not : (n : ℕ) (f : Form) → denied n (Not f) ≡ denied (suc n) f
denied-not zero f = refl
denied-not (suc n) f = ap (λ x. Not x) (denied-not n f)

-- a unary that is read
pub record EndsUnary (at : ℕ) (ts : List Sign) (left : Option Form) (nots : ℕ) (outer : List Frame) (f : Form) : Type 0 where
  pub now : Now
  pub count : ℕ
  pub inner : Form
  pub runs : read_from at (fresh left nots outer) ts ≡ Some (with_now (record { left = left; nots = count }) outer now)
  pub unary : unary_of now ≡ Some inner
  pub means : denied count inner ≡ denied nots f

pub record EndsForm (at : ℕ) (ts : List Sign) (outer : List Frame) (f : Form) : Type 0 where
  pub now : Now
  pub frame : Frame
  pub runs : read_from at (fresh None 0 outer) ts ≡ Some (with_now frame outer now)
  pub form : form_here now frame ≡ Some f

abbrev pub RunsForm : Level → ℕ → List Sign → Form → Type 0
RunsForm Unary at ts f = (left : Option Form) (nots : ℕ) (outer : List Frame) → EndsUnary at ts left nots outer f
RunsForm Whole at ts f = (outer : List Frame) → EndsForm at ts outer f

-- the form that a unary's end gives
form_at : (at : ℕ) (ts : List Sign) (left : Option Form) (outer : List Frame) (f : Form) → (k : EndsUnary at ts left 0 outer f) →
    form_here k.now (record { left = left; nots = k.count }) ≡ Some (and_unary left f)
form_at at ts left outer f k =
    ap (λ (o : Option Form). bind o (λ x. Some (and_unary left (denied k.count x)))) k.unary ∙ ap (λ x. Some (and_unary left x)) k.means

pub derives_run : (r : Level) (at : ℕ) (ts : List Sign) (f : Form) → Derives r at ts f → RunsForm r at ts f
derives_run r at ts f (IsPlain {e = e} h) = λ left nots outer.
    let frame : Frame = record { left = left; nots = nots } in
    let k = reads_run Sum at ts e h [] frame outer in
    record {
      now = Plainly k.0.layer [];
      count = nots;
      inner = Part e;
      runs = from_fresh Sum at ts e h left nots outer ∙ k.0.runs;
      unary = ap (λ (o : Option Plain). bind o (λ x. Some (Part x))) k.1;
      means = refl;
    }
derives_run r at ts f (Denied {f = g} us h z) =
    let k = derives_run Unary (at + 1) us g h in
    λ left nots outer.
    let e = k left (suc nots) outer in
    record {
      now = e.now;
      count = e.count;
      inner = e.inner;
      runs = subst (λ x. read_from at (fresh left nots outer) x ≡ Some (with_now (record { left = left; nots = e.count }) outer e.now)) (sym z) e.runs;
      unary = e.unary;
      means = e.means ∙ sym (denied-not nots g);
    }
derives_run r at ts f (Braced us h z) =
    let k = derives_run Whole (at + 1) us f h in
    λ left nots outer.
    let frame : Frame = record { left = left; nots = nots } in
    let e = k (frame ∷ outer) in
    let close : read_from (at + 1 + length us) (with_now e.frame (frame ∷ outer) e.now) (End ∷ []) ≡ Some (with_now frame outer (Closed f)) =
    ap (λ (o : Option Form). bind {B = Stack} (bind o (λ x. pops x (frame ∷ outer))) (λ u. Some u)) e.form in
    record {
      now = Closed f;
      count = nots;
      inner = f;
      runs = subst (λ x. read_from at (fresh left nots outer) x ≡ Some (with_now frame outer (Closed f))) (sym z)
          (then_run (at + 1) (fresh None 0 (frame ∷ outer)) (with_now e.frame (frame ∷ outer) e.now) (with_now frame outer (Closed f)) us
          (End ∷ []) e.runs close);
      unary = refl;
      means = refl;
    }
derives_run r at ts f (Only h) =
    let k = derives_run Unary at ts f h in
    λ outer.
    let e = k None 0 outer in
    record { now = e.now; frame = record { left = None; nots = e.count }; runs = e.runs; form = form_at at ts None outer f e }
derives_run r at ts f (Joined {f = d} {g = g} us vs h k z) =
    let a = derives_run Whole at us d h in
    let b = derives_run Unary (at + length us + 1) vs g k in
    λ outer.
    let x = a outer in
    let y = b (Some d) 0 outer in
    let amp : read_from (at + length us) (with_now x.frame outer x.now) (Ampersand ∷ []) ≡ Some (fresh (Some d) 0 outer) =
    ap (λ (o : Option Form). bind {B = Stack} (bind o (λ v. Some (fresh (Some v) 0 outer))) (λ u. Some u)) x.form in
    let rest = then_run (at + length us) (with_now x.frame outer x.now) (fresh (Some d) 0 outer)
    (with_now (record { left = Some d; nots = y.count }) outer y.now) (Ampersand ∷ []) vs amp y.runs in
    record {
      now = y.now;
      frame = record { left = Some d; nots = y.count };
      runs = subst (λ v. read_from at (fresh None 0 outer) v ≡ Some (with_now (record { left = Some d; nots = y.count }) outer y.now)) (sym z)
          (then_run at (fresh None 0 outer) (with_now x.frame outer x.now) (with_now (record { left = Some d; nots = y.count }) outer y.now) us
          (Ampersand ∷ vs) x.runs rest);
      form = form_at (at + length us + 1) vs (Some d) outer g y;
    }

pub complete : (ts : List Sign) (f : Form) → IsForm 1 ts f → parsed ts ≡ Some f
complete ts f h = let k = derives_run Whole 1 ts f h [] in ap (λ (o : Option Stack). bind o ended) k.runs ∙ k.form
