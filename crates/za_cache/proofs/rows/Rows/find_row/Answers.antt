use Rattle.std.proofs.Common.{sym, ap, ◌∙◌, refl, map, ℕ, List}
use Rattle.std.specs.Map.{lookup}
use Rattle.lru.specs.LruCache.{LruCache, promoted}
use Rattle.za_cache.specs.declared.rows.RowKey.{RowKey}
use Rattle.za_cache.specs.Lines.{Lines, line_key, is_key}
use Rattle.za_cache.specs.Private.Inside.{is_row_key, bare}
use Rattle.za_cache.proofs.Lines.{lookup-bare, promoted-bare}
use Rattle.za_cache.proofs.rows.Rows.find_row.Goals as goal

pub returns-clause-found : goal.returns-clause-found
returns-clause-found c =
    c.look_up.ensures.found
    ∙ sym (lookup-bare (is_row_key c.args.key.now.letter c.args.key.now.inputs.items) (λ (k : RowKey). line_key k.letter k.inputs.items)
    (is_key c.args.key.now.letter c.args.key.now.inputs.items) (λ k. refl) c.self.inside.cache.entries)
    ∙ ap (λ (l : Lines). lookup (is_key c.args.key.now.letter c.args.key.now.inputs.items) l.lines) c.self.view_is

pub returns-clause-lines : goal.returns-clause-lines
returns-clause-lines c =
    ap (λ (k : LruCache RowKey ℕ). record { lines = map bare k.entries; capacity = k.cap }) c.look_up.ensures.entries
    ∙ ap (λ (es : List (_ × ℕ)). record { lines = es; capacity = c.self.inside.cache.cap })
    (sym (promoted-bare (is_row_key c.args.key.now.letter c.args.key.now.inputs.items) (λ (k : RowKey). line_key k.letter k.inputs.items)
    (is_key c.args.key.now.letter c.args.key.now.inputs.items) (λ k. refl) c.self.inside.cache.entries))
    ∙ ap (λ (l : Lines). record l { lines = promoted (is_key c.args.key.now.letter c.args.key.now.inputs.items) l.lines }) c.self.view_is
