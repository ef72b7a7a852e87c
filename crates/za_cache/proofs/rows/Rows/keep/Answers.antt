use Rattle.std.proofs.Common.{sym, ap, ◌∙◌, map, subst, ℕ, take, ◌-◌, ◌<◌, ◌≤◌, ◌≡◌, ◌∷◌, length, false}
use Rattle.std.specs.Map.{lookup}
use Rattle.std.specs.Option.{is_some}
use Rattle.lru.specs.LruCache.{LruCache, lru_cache}
use Rattle.za_cache.specs.declared.rows.RowKey.{RowKey}
use Rattle.za_cache.specs.declared.rows.Kept.TheVariants.{Stored, Replaced, Refused}
use Rattle.za_cache.specs.Lines.{Lines, line_key, is_key, HasKept}
use Rattle.za_cache.specs.Private.Inside.{is_row_key, bare}
use Rattle.za_cache.proofs.Lines.{put-absent, displaced-absent}
use Rattle.za_cache.proofs.Keeping.{lines_of, absent-row, stored, replaced, kept-in}
use Rattle.za_cache.proofs.rows.Rows.keep.Goals.{Joined-push, in-Ok-None, in-Ok-Some, in-Err}
use Rattle.za_cache.proofs.rows.Rows.keep.Goals as goal

absent : (c : Joined-push) → is_some (lookup (is_row_key c.args.letter c.in-Ok.inputs.items) c.self.inside.cache.entries) ≡ false
absent c =
    absent-row c.args.letter c.in-Ok.inputs.items c.self.inside.cache.entries
    (ap (λ i. is_some (lookup (is_key c.args.letter i) (map bare c.self.inside.cache.entries))) c.in-Ok.ensures.ok
    ∙ ap (λ (l : Lines). is_some (lookup (is_key c.args.letter c.args.inputs.now) l.lines)) c.self.view_is ∙ c.requires.absent)

pub returns : goal.returns
returns c =
    let cache = c.self.inside.cache in
    let key : RowKey = record { letter = c.args.letter; inputs = c.in-Ok.inputs } in
    let eq : RowKey → RowKey → _ = λ (a b : RowKey). is_row_key a.letter a.inputs.items b in
    let q = absent c in
    let few : length cache.entries ≤ cache.cap = c.len-count.ensures.valid.1 in
    let some : 0 < cache.cap = c.len-count.ensures.valid.2 in
    let d = displaced-absent eq cache key c.args.output q in
    let p = put-absent eq cache key c.args.output q in
    elim c.match-push.branch [
      | in-Ok-None w ↦
          let e : c.push.new.self ≡ lru_cache ((key, c.args.output) ∷ take (cache.cap - 1) cache.entries) cache.cap = (w.in-Ok-None.ensures).entries ∙ ap
          (λ es. lru_cache es cache.cap) p in
          kept-in (lines_of cache.entries cache.cap) c.args.self.now (lines_of c.push.new.self.entries c.push.new.self.cap) c.args.letter c.args.output
          c.in-Ok.inputs.items c.args.inputs.now Stored c.match-push.result
          c.self.view_is c.in-Ok.ensures.ok w.result-is
          (subst (λ (n : LruCache RowKey ℕ). HasKept (lines_of cache.entries cache.cap) (lines_of n.entries n.cap)
          (line_key c.args.letter c.in-Ok.inputs.items, c.args.output) Stored) (sym e)
          (stored cache.entries cache.cap key c.args.output (sym d ∙ sym (w.in-Ok-None.ensures).old ∙ w.in-Ok-None.field-0-is) some))
      | in-Ok-Some w ↦
          let e : c.push.new.self ≡ lru_cache ((key, c.args.output) ∷ take (cache.cap - 1) cache.entries) cache.cap = (w.in-Ok-Some.ensures).entries ∙ ap
          (λ es. lru_cache es cache.cap) p in
          kept-in (lines_of cache.entries cache.cap) c.args.self.now (lines_of c.push.new.self.entries c.push.new.self.cap) c.args.letter c.args.output
          c.in-Ok.inputs.items c.args.inputs.now
          (Replaced (record { letter = w.in-Ok-Some.key.letter; inputs = w.in-Ok-Some.key.inputs; output = w.in-Ok-Some.output })) c.match-push.result
          c.self.view_is c.in-Ok.ensures.ok (w.result-is ∙ ap Replaced w.line_of.ensures)
          (subst (λ (n : LruCache RowKey ℕ). HasKept (lines_of cache.entries cache.cap) (lines_of n.entries n.cap)
          (line_key c.args.letter c.in-Ok.inputs.items, c.args.output)
          (Replaced (record { letter = w.in-Ok-Some.key.letter; inputs = w.in-Ok-Some.key.inputs; output = w.in-Ok-Some.output }))) (sym e)
          (replaced cache.entries cache.cap key c.args.output (w.in-Ok-Some.key, w.in-Ok-Some.output)
          (sym d ∙ sym (w.in-Ok-Some.ensures).old ∙ w.in-Ok-Some.field-0-is) few some))
      | in-Err w ↦
          let v = (w.in-Err.ensures).value_returned in
          kept-in (lines_of cache.entries cache.cap) c.args.self.now (lines_of c.push.new.self.entries c.push.new.self.cap) c.args.letter c.args.output
          c.in-Ok.inputs.items c.args.inputs.now
          (Refused (record { letter = w.in-Err.failed.value.0.letter; inputs = w.in-Err.failed.value.0.inputs; output = w.in-Err.failed.value.1 }))
          c.match-push.result
          c.self.view_is c.in-Ok.ensures.ok (w.result-is ∙ ap Refused w.line_of-in-Err.ensures)
          (ap (λ (n : LruCache RowKey ℕ). lines_of n.entries n.cap) (w.in-Err.ensures).err, ap bare v)
    ]
