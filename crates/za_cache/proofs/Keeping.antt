-- What keeping a line does to the lines.
use Rattle.std.proofs.Common.{◌≡◌, ℕ, ◌-◌, ◌<◌, ◌≤◌, List, [], ◌∷◌, length, take, map, Some, None, refl, ap, ◌∙◌, sym, subst, arith, false}
use Rattle.std.proofs.lemmas.List.{length-map, map-append}
use Rattle.std.specs.List.{slice_get}
use Rattle.std.specs.Option.{is_some}
use Rattle.std.specs.Map.{lookup}
use Rattle.za_cache.specs.declared.rows.RowKey.{RowKey}
use Rattle.za_cache.specs.declared.rows.Line.{Line}
use Rattle.za_cache.specs.declared.rows.Kept.{Kept}
use Rattle.za_cache.specs.declared.rows.Kept.TheVariants.{Stored, Replaced}
use Rattle.za_cache.specs.Lines.{Lines, line_key, is_key, HasKept}
use Rattle.za_cache.specs.Private.Inside.{is_row_key, bare}
use Rattle.za_cache.proofs.Lines.{lookup-bare, none-last, some-last}

abbrev pub lines_of : List (RowKey × ℕ) → ℕ → Lines
lines_of es cap = record { lines = map bare es; capacity = cap }

abbrev pub line_at : RowKey × ℕ → Line
line_at e = record { letter = e.0.letter; inputs = e.0.inputs; output = e.1 }

pub absent-row : (letter : ℕ) (inputs : List ℕ) (es : List (RowKey × ℕ)) → is_some (lookup (is_key letter inputs) (map bare es)) ≡ false → is_some
    (lookup (is_row_key letter inputs) es) ≡ false
absent-row letter inputs es h = ap is_some
    (sym (lookup-bare (is_row_key letter inputs) (λ (k : RowKey). line_key k.letter k.inputs.items) (is_key letter inputs) (λ k. refl) es)) ∙ h

pub stored : (es : List (RowKey × ℕ)) (cap : ℕ) (k : RowKey) (v : ℕ) → slice_get es (cap - 1) ≡ None → 0 < cap → HasKept (lines_of es cap)
    (lines_of ((k, v) ∷ take (cap - 1) es) cap) (bare (k, v)) Stored
stored es cap k v h some =
    let r = none-last (cap - 1) es h in
    (let n = length-map es bare in let l = r.0 in omega arith, ap (λ xs. record { lines = bare (k, v) ∷ map bare xs; capacity = cap }) r.1)

pub replaced : (es : List (RowKey × ℕ)) (cap : ℕ) (k : RowKey) (v : ℕ) (e : RowKey × ℕ) → slice_get es (cap - 1) ≡ Some e → length es ≤ cap → 0 < cap →
    HasKept (lines_of es cap) (lines_of ((k, v) ∷ take (cap - 1) es) cap) (bare (k, v)) (Replaced (line_at e))
replaced es cap k v e h few some =
    let r = some-last (cap - 1) es e h (omega arith) in (
      let n = length-map es bare in let l = r.1 in omega arith,
      (map bare (take (cap - 1) es), ap (map bare) r.0 ∙ map-append bare (take (cap - 1) es) (e ∷ []), refl),
    )

-- over the fields of the rows
pub kept-in : (old old' : Lines) (new : Lines) (letter output : ℕ) (i i' : List ℕ) (r r' : Kept) → old ≡ old' → i ≡ i' → r' ≡ r → HasKept old new
    (line_key letter i, output) r → HasKept old' new (line_key letter i', output) r'
kept-in old old' new letter output i i' r r' eo ei er h =
    subst (λ x. HasKept old' new (line_key letter i', output) x) (sym er) (subst (λ (x : List ℕ). HasKept old' new (line_key letter x, output) r) ei
    (subst (λ x. HasKept x new (line_key letter i, output) r) eo h))
