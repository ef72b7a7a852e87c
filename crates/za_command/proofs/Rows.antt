-- What is looked up in rows, of which each id has one.
use Rattle.std.proofs.Common.{◌≡◌, ◌∙◌, Bool, true, false, ◌||◌, List, [], ◌∷◌, ◌++◌, Option, Some, None, is_some, refl, ap, cond, append-nil, true≢false}
use Rattle.std.specs.List.{find}
use Rattle.std.specs.Str.{bytes_eq}
use Rattle.std.specs.Prelude.{option_and_then, slice_get}
use Rattle.clap.specs.Walk.{Row, Text, at_row, first_of, has_row, with_values, without, more_values}
use Rattle.clap.specs.declared.parser.matches.ValueSource.TheVariants.{CommandLine}
use Rattle.clap.specs.declared.builder.value_parser.Reading.{Reading}

-- the rows have this first value for the id, or no row
pub record HasFirst (id : Text) (value : Option Text) (rows : List Row) : Type 0 where
  pub first : first_of id rows ≡ value
  pub has : has_row id rows ≡ is_some value

-- the row that a use makes
abbrev pub used_row : Text → Reading → Text → Row
used_row id how value = record { id = id; values = value ∷ []; count = None; source = Some CommandLine; reading = how }

or_left : (a b : Bool) → (a || b) ≡ false → a ≡ false
or_left true b e = e
or_left false b e = refl

or_right : (a b : Bool) → (a || b) ≡ false → b ≡ false
or_right true b e = absurd (true≢false e)
or_right false b e = e

missing_at : (id : Text) (change : Row → List Row) (missing rows : List Row) → has_row id rows ≡ false
    → at_row id change missing rows ≡ rows ++ missing
missing_at id change missing [] none = refl
missing_at id change missing (r ∷ rs) none =
    let here : bytes_eq r.id id ≡ false = or_left _ (has_row id rs) none in
    rw here (ap (λ xs. r ∷ xs) (missing_at id change missing rs (or_right (bytes_eq r.id id) _ none)))

-- a first use of the id puts its row at the end
pub use_adds : (id value : Text) (how : Reading) (rows : List Row) → has_row id rows ≡ false
    → with_values id how CommandLine (value ∷ []) (without id rows) ≡ rows ++ used_row id how value ∷ []
use_adds id value how rows none =
    ap (with_values id how CommandLine (value ∷ [])) (missing_at id (λ _. []) [] rows none ∙ append-nil rows)
    ∙ missing_at id (more_values CommandLine (value ∷ [])) (used_row id how value ∷ []) rows none

abbrev first_in : Option Row → Option Text
first_in = option_and_then (λ r. slice_get r.values 0)

find_here : (id : Text) (rows : List Row) (r : Row) → has_row id rows ≡ false → bytes_eq r.id id ≡ true
    → first_of id (rows ++ r ∷ []) ≡ slice_get r.values 0
find_here id [] r none same = rw same refl
find_here id (x ∷ xs) r none same =
    let here : bytes_eq x.id id ≡ false = or_left _ (has_row id xs) none in
    rw here (find_here id xs r (or_right (bytes_eq x.id id) _ none) same)

find_past : (id : Text) (rows : List Row) (r : Row) → bytes_eq r.id id ≡ false → first_of id (rows ++ r ∷ []) ≡ first_of id rows
find_past id [] r other = rw other refl
find_past id (x ∷ xs) r other = go (bytes_eq x.id id) (find_past id xs r other)
  where
    go : (b : Bool) → first_in (find (λ y. bytes_eq y.id id) (xs ++ r ∷ [])) ≡ first_in (find (λ y. bytes_eq y.id id) xs)
        → first_in (cond b (Some x) (find (λ y. bytes_eq y.id id) (xs ++ r ∷ []))) ≡ first_in (cond b (Some x) (find (λ y. bytes_eq y.id id) xs))
    go true e = refl
    go false e = e

has_here : (id : Text) (rows : List Row) (r : Row) → bytes_eq r.id id ≡ true → has_row id (rows ++ r ∷ []) ≡ true
has_here id [] r same = rw same refl
has_here id (x ∷ xs) r same = go (bytes_eq x.id id) (has_here id xs r same)
  where
    go : (b : Bool) → has_row id (xs ++ r ∷ []) ≡ true → (b || has_row id (xs ++ r ∷ [])) ≡ true
    go true e = refl
    go false e = e

has_past : (id : Text) (rows : List Row) (r : Row) → bytes_eq r.id id ≡ false → has_row id (rows ++ r ∷ []) ≡ has_row id rows
has_past id [] r other = rw other refl
has_past id (x ∷ xs) r other = ap (λ b. bytes_eq x.id id || b) (has_past id xs r other)

pub after_use : (id value : Text) (how : Reading) (rows : List Row) → bytes_eq id id ≡ true → HasFirst id None rows
    → HasFirst id (Some value) (rows ++ used_row id how value ∷ [])
after_use id value how rows same h = record {
  first = find_here id rows (used_row id how value) h.has same;
  has = has_here id rows (used_row id how value) same;
}

pub after_other : (id other value : Text) (old : Option Text) (how : Reading) (rows : List Row) → bytes_eq other id ≡ false → HasFirst id old rows
    → HasFirst id old (rows ++ used_row other how value ∷ [])
after_other id other value old how rows differs h = record {
  first = find_past id rows (used_row other how value) differs ∙ h.first;
  has = has_past id rows (used_row other how value) differs ∙ h.has;
}
