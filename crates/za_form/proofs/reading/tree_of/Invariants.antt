use Rattle.std.proofs.Common.{◌≡◌, ◌+◌, drop}
use Rattle.za_expression.specs.Private.Machine.{read_from, start}
use Rattle.za_form.specs.Private.Stacks.{stack_of, IsStackBelow}
use Rattle.za_form.proofs.reading.tree_of.Given as goal

abbrev pub invariant-loop-sign : goal.invariant-loop-sign
invariant-loop-sign l = record {
  place : l.at ≡ l.sign-index + 1;
  below : IsStackBelow (l.sign-index + 1) (stack_of l.state);
  rest : read_from l.at (stack_of l.state) (drop l.sign-index l.signs) ≡ read_from 1 start l.signs;
}
