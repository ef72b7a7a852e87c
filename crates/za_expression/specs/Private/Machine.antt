-- Reading a form from left to right with a stack.
use Rattle.std.specs.Prelude.{ℕ, zero, suc, ◌+◌, Option, Some, None, List, [], ◌∷◌}
use Rattle.za_expression.specs.declared.sign.Sign.{Sign}
use Rattle.za_expression.specs.declared.sign.Sign.TheVariants.{Name, Empty, Open, Close, Begin, End}
use Rattle.za_expression.specs.declared.sign.Sign.TheVariants.{Bar, Times, Ampersand, Bang}
use Rattle.za_expression.specs.Plain.{Plain, One, Occurrence, Sequence, Or, Star}
use Rattle.za_expression.specs.Forms.{Form, Part, And, Not}

-- one level of a plain expression: the cats before the last bar, the items before the last, the last item
pub record Layer : Type 0 where
  pub sums : Option Plain
  pub items : Option Plain
  pub last : Option Plain

-- one level of a form: what stands before the last &, and how many ! stand before the unary
pub record Frame : Type 0 where
  pub left : Option Form
  pub nots : ℕ

-- what is read of the unary: nothing yet, a part of a plain with its open groups, or braces
pub data Now : Type 0 where
  Fresh : Now
  Plainly : (layer : Layer) (groups : List Layer) → Now
  Closed : (inner : Form) → Now

pub record Stack : Type 0 where
  pub now : Now
  pub frame : Frame
  pub outer : List Frame

abbrev pub empty_layer : Layer
empty_layer = record { sums = None; items = None; last = None }

abbrev pub then_item : Option Plain → Plain → Plain
then_item None e = e
then_item (Some d) e = Sequence d e

abbrev pub or_product : Option Plain → Plain → Plain
or_product None e = e
or_product (Some d) e = Or d e

abbrev pub and_unary : Option Form → Form → Form
and_unary None g = g
and_unary (Some f) g = And f g

abbrev pub denied : ℕ → Form → Form
denied zero f = f
denied (suc n) f = Not (denied n f)

abbrev pub bind : {A B : Type 0} → Option A → (A → Option B) → Option B
bind None f = None
bind (Some x) f = f x

-- the items of the layer's last product
abbrev pub product_of : Layer → Option Plain
product_of l = bind l.last (λ e. Some (then_item l.items e))

abbrev pub sum_of : Layer → Option Plain
sum_of l = bind l.last (λ e. Some (or_product l.sums (then_item l.items e)))

-- the layer with one more item
abbrev pub with_item : Layer → Plain → Layer
with_item l e = record { sums = l.sums; items = product_of l; last = Some e }

abbrev pub with_star : Layer → Option Layer
with_star l = bind l.last (λ e. Some (record { sums = l.sums; items = l.items; last = Some (Star e) }))

abbrev pub with_bar : Layer → Option Layer
with_bar l = bind (sum_of l) (λ e. Some (record { sums = Some e; items = None; last = None }))

-- the layer and its groups after one more token of a plain
abbrev pub layer_step : ℕ → Layer → List Layer → Sign → Option Now
layer_step at l groups (Name a) = Some (Plainly (with_item l (Occurrence at)) groups)
layer_step at l groups Empty = Some (Plainly (with_item l One) groups)
layer_step at l groups Open = Some (Plainly empty_layer (l ∷ groups))
layer_step at l [] Close = None
layer_step at l (g ∷ groups) Close = bind (sum_of l) (λ e. Some (Plainly (with_item g e) groups))
layer_step at l groups Bar = bind (with_bar l) (λ m. Some (Plainly m groups))
layer_step at l groups Times = bind (with_star l) (λ m. Some (Plainly m groups))
layer_step at l groups Begin = None
layer_step at l groups End = None
layer_step at l groups Ampersand = None
layer_step at l groups Bang = None

-- the unary that ends here
abbrev pub unary_of : Now → Option Form
unary_of Fresh = None
unary_of (Plainly l []) = bind (sum_of l) (λ e. Some (Part e))
unary_of (Plainly l (g ∷ groups)) = None
unary_of (Closed f) = Some f

-- the form that ends here
abbrev pub form_here : Now → Frame → Option Form
form_here now frame = bind (unary_of now) (λ f. Some (and_unary frame.left (denied frame.nots f)))

abbrev pub fresh_frame : Frame
fresh_frame = record { left = None; nots = 0 }

-- a ! or a { before a unary
abbrev pub opens : Stack → Stack → Option Stack
opens s t = elim s.now [ Fresh ↦ Some t | Plainly l groups ↦ None | Closed f ↦ None ]

abbrev pub pops : Form → List Frame → Option Stack
pops f [] = None
pops f (frame ∷ outer) = Some (record { now = Closed f; frame = frame; outer = outer })

abbrev pub with_now : Frame → List Frame → Now → Stack
with_now frame outer now = record { now = now; frame = frame; outer = outer }

abbrev pub now_step : ℕ → Now → Sign → Option Now
now_step at Fresh t = layer_step at empty_layer [] t
now_step at (Plainly l groups) t = layer_step at l groups t
now_step at (Closed f) t = None

abbrev pub plain_step : ℕ → Stack → Sign → Option Stack
plain_step at s t = bind (now_step at s.now t) (λ now. Some (with_now s.frame s.outer now))

abbrev pub step : ℕ → Stack → Sign → Option Stack
step at s Bang = opens s (with_now (record { left = s.frame.left; nots = suc s.frame.nots }) s.outer Fresh)
step at s Begin = opens s (with_now fresh_frame (s.frame ∷ s.outer) Fresh)
step at s End = bind (form_here s.now s.frame) (λ f. pops f s.outer)
step at s Ampersand =
    bind (form_here s.now s.frame) (λ f. Some (with_now (record { left = Some f; nots = 0 }) s.outer Fresh))
step at s (Name a) = plain_step at s (Name a)
step at s Empty = plain_step at s Empty
step at s Open = plain_step at s Open
step at s Close = plain_step at s Close
step at s Bar = plain_step at s Bar
step at s Times = plain_step at s Times

abbrev pub read_from : ℕ → Stack → List Sign → Option Stack
read_from at s [] = Some s
read_from at s (t ∷ ts) = bind (step at s t) (λ u. read_from (at + 1) u ts)

abbrev pub ended : Stack → Option Form
ended s = elim s.outer [ [] ↦ form_here s.now s.frame | f ∷ fs ↦ None ]

abbrev pub start : Stack
start = record { now = Fresh; frame = fresh_frame; outer = [] }

abbrev pub parsed : List Sign → Option Form
parsed ts = bind (read_from 1 start ts) ended
