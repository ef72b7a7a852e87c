-- The states of reading that those in memory are.
use Rattle.std.specs.Prelude.{ℕ, Option, Some, None, map, reverse, List, [], ◌∷◌, ◌<◌}
use Rattle.za_expression.specs.Private.Machine as machine
use Rattle.za_form.specs.declared.reading.Layer.{Layer}
use Rattle.za_form.specs.declared.reading.Frame.{Frame}
use Rattle.za_form.specs.declared.reading.Now.{Now}
use Rattle.za_form.specs.declared.reading.Stack.{Stack}
use Rattle.za_form.specs.declared.reading.Now.TheVariants as nows
use Rattle.za_form.specs.Private.Trees.{tree_option, form, form_option}

abbrev pub layer_of : Layer → machine.Layer
layer_of l = record { sums = tree_option l.sums; items = tree_option l.items; last = tree_option l.last }

abbrev pub layer_option : Option Layer → Option machine.Layer
layer_option None = None
layer_option (Some l) = Some (layer_of l)

abbrev pub frame_of : Frame → machine.Frame
frame_of f = record { left = form_option f.left; nots = f.nots }

abbrev pub now_of : Now → machine.Now
now_of nows.Fresh = machine.Fresh
now_of (nows.Plainly l groups) = machine.Plainly (layer_of l) (reverse (map layer_of groups.items))
now_of (nows.Closed f) = machine.Closed (form f)

abbrev pub now_option : Option Now → Option machine.Now
now_option None = None
now_option (Some n) = Some (now_of n)

abbrev pub stack_of : Stack → machine.Stack
stack_of s = record { now = now_of s.now; frame = frame_of s.frame; outer = reverse (map frame_of s.outer.items) }

abbrev pub stack_option : Option Stack → Option machine.Stack
stack_option None = None
stack_option (Some s) = Some (stack_of s)

-- each frame has fewer ! than this
abbrev pub FramesAreBelow : ℕ → List machine.Frame → Type 0
FramesAreBelow n [] = Unit {0}
FramesAreBelow n (f ∷ fs) = (f.nots < n) × FramesAreBelow n fs

pub record IsStackBelow (n : ℕ) (s : machine.Stack) : Type 0 where
  pub here : s.frame.nots < n
  pub outside : FramesAreBelow n s.outer
