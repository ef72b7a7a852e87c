use Rattle.std.proofs.Common.{refl, subst}
use Rattle.za_cache.specs.declared.rows.RowKey.{RowKey}
use Rattle.za_cache.specs.Lines.{LineKey, line_key, is_key, AreDistinct}
use Rattle.za_cache.specs.Private.Inside.{is_row_key}
use Rattle.za_cache.proofs.Lines.{distinct-bare}
use Rattle.za_cache.proofs.rows.Rows.len.Goals as goal

pub returns-clause-distinct : goal.returns-clause-distinct
returns-clause-distinct c =
    subst AreDistinct c.self.view_is
    (distinct-bare (λ (a b : RowKey). is_row_key a.letter a.inputs.items b) (λ (k : RowKey). line_key k.letter k.inputs.items)
    (λ (a : LineKey). is_key a.letter a.inputs) (λ j k. refl) c.self.inside.cache.entries c.len.ensures.valid.0)
