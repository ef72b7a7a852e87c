use Rattle.za_form.specs.Private.Trees.{tree}
use Rattle.za_form.proofs.Occurrences.{ends_with_start, ends_alone}
use Rattle.za_form.proofs.places.ends.Goals as goal
use Rattle.std.proofs.Common.{sym, ◌∙◌}

pub returns-then-nullable : goal.returns-then-nullable
returns-then-nullable c = record {
  bits =
      ends_with_start 128 (tree c.args.e.now) c.last.result c.either.result c.requires c.last.ensures c.either.ensures (sym c.nullable.ensures ∙
      c.if-nullable.true);
}

pub returns-else-nullable : goal.returns-else-nullable
returns-else-nullable c = record {
  bits =
      ends_alone 128 (tree c.args.e.now) c.last-else-nullable.result c.requires c.last-else-nullable.ensures (sym c.nullable.ensures ∙ c.if-nullable.false);
}
