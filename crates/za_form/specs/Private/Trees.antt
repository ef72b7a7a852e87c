-- The expressions and forms that trees in memory are.
use Rattle.std.specs.Prelude.{Option, Some, None}
use Rattle.za_expression.specs.Plain.{Plain, One, Occurrence, Sequence, Or, Star}
use Rattle.za_expression.specs.Forms.{Form, Part, And, Not}
use Rattle.za_form.specs.declared.tree.PlainTree.{PlainTree, Sequence', Or', Star'}
use Rattle.za_form.specs.declared.tree.PlainTree.TheVariants as trees
use Rattle.za_form.specs.declared.tree.FormTree.{FormTree, And', Not'}
use Rattle.za_form.specs.declared.tree.FormTree.TheVariants as forms

abbrev pub tree : PlainTree → Plain
tree trees.One = One
tree (trees.Occurrence p) = Occurrence p
tree (Sequence' p a q b) = Sequence (tree a) (tree b)
tree (Or' p a q b) = Or (tree a) (tree b)
tree (Star' p a) = Star (tree a)

abbrev pub tree_option : Option PlainTree → Option Plain
tree_option None = None
tree_option (Some x) = Some (tree x)

abbrev pub form : FormTree → Form
form (forms.Part e) = Part (tree e)
form (And' p a q b) = And (form a) (form b)
form (Not' p a) = Not (form a)

abbrev pub form_option : Option FormTree → Option Form
form_option None = None
form_option (Some x) = Some (form x)
