-- Each row is made of blocks, one for each process, and so is each row after an event.
use Rattle.std.proofs.Common.{◌≡◌, ℕ, zero, suc, ◌+◌, ◌*◌, ◌/◌, ◌%◌, ◌<◌, true, false, List, [], ◌∷◌, length, get_or, map, flat_map, Option, Some, None, refl}
use Rattle.std.proofs.Common.{sym, ap, ◌∙◌, arith}
use Rattle.std.specs.List.{range_with_len}
use Rattle.std.specs.Option.{option_map_or}
use Rattle.std.proofs.Math.Path.{fun_ext}
use Rattle.std.proofs.Math.Nat.{mul-zero, div-lt_iff_lt-mul, mod-lt}
use Rattle.std.proofs.lemmas.Nat.{div-add-mod'}
use Rattle.std.proofs.lemmas.Bool.{cond-true, cond-false}
use Rattle.std.proofs.lemmas.List.Concat.{flat_map_single}
use Rattle.std.proofs.lemmas.List.FromFn.{length-map-range_with_len, fill_by_all}
use Rattle.za_alpha.specs.Words.{has}
use Rattle.za_order.specs.Labels.{number_of}
use Rattle.za_order.specs.Locals.{Ids}
use Rattle.za_gossip.specs.declared.gossip.Level.{Level}
use Rattle.za_gossip.specs.declared.gossip.Level.TheVariants.{Primary, Secondary, Tertiary}
use Rattle.za_gossip.specs.Rows.{rows_of}
use Rattle.za_gossip.specs.Private.Levels.{level_of}
use Rattle.za_gossip.specs.Updates.{newest, new_label, new_primary, new_secondary, updated}
use Rattle.za_gossip.specs.Private.Sources.{joined_entry}
use Rattle.za_gossip.proofs.Blocks.{entry-of-block, length-blocks}

-- the block for q, and its length
abbrev pub block : Level → ℕ → Ids → ℕ → List ℕ
block Primary n known q = known.primary q ∷ []
block Secondary n known q = map (known.secondary q) (range_with_len 0 n)
block Tertiary n known q = flat_map (λ r. map (known.tertiary q r) (range_with_len 0 n)) (range_with_len 0 n)

abbrev pub width : Level → ℕ → ℕ
width Primary n = 1
width Secondary n = n
width Tertiary n = n * n

pub length-block : (level : Level) (n : ℕ) (known : Ids) (q : ℕ) → length (block level n known q) ≡ width level n
length-block Primary n known q = refl
length-block Secondary n known q = length-map-range_with_len (known.secondary q) 0 n
length-block Tertiary n known q =
    length-blocks (λ r. map (known.tertiary q r) (range_with_len 0 n)) n (λ r. length-map-range_with_len (known.tertiary q r) 0 n) n

-- a row is its blocks
row-blocks : (level : Level) (n : ℕ) (known : Ids) → level_of level (rows_of n known) ≡ flat_map (block level n known) (range_with_len 0 n)
row-blocks Primary n known = sym (flat_map_single known.primary (range_with_len 0 n))
row-blocks Secondary n known = refl
row-blocks Tertiary n known = refl

pub length-row : (level : Level) (n : ℕ) (known : Ids) → length (level_of level (rows_of n known)) ≡ n * width level n
length-row level n known = ap length (row-blocks level n known) ∙ length-blocks (block level n known) (width level n) (length-block level n known) n

-- and has their entries
pub row-entry : (level : Level) (n : ℕ) (known : Ids) (q j : ℕ) → q < n → j < width level n →
    get_or (level_of level (rows_of n known)) (q * width level n + j) 0 ≡ get_or (block level n known q) j 0
row-entry level n known q j lq lj =
    ap (λ xs. get_or xs (q * width level n + j) 0) (row-blocks level n known)
    ∙ entry-of-block (block level n known) (width level n) (length-block level n known) n q j lq lj

-- what an event makes of the blocks
module _ (n : ℕ) (xs : List ℕ) (a : ℕ) (known : ℕ → Ids) where
  abbrev next : Ids
  next = updated n xs a known

  -- the block of each participant: the new event, or the row before
  abbrev pub own_block : Level → List ℕ
  own_block Primary = number_of n a (new_label n xs a known) ∷ []
  own_block Secondary = (rows_of n next).primary
  own_block Tertiary = (rows_of n next).secondary

  length-own : (level : Level) → length (own_block level) ≡ width level n
  length-own Primary = refl
  length-own Secondary = length-row Primary n next ∙ (let e : n * 1 ≡ n = omega arith in e)
  length-own Tertiary = length-row Secondary n next

  block-own : (level : Level) (q : ℕ) → has xs q ≡ true → block level n next q ≡ own_block level
  block-own Primary q t =
      let old = known (newest n xs known q) in
      ap (λ v. v ∷ []) (cond-true (has xs q) (number_of n a (new_label n xs a known)) (old.primary q) t)
  block-own Secondary q t =
      let old = known (newest n xs known q) in
      ap (λ f. map f (range_with_len 0 n)) (fun_ext (λ r. cond-true (has xs q) (new_primary n xs a known r) (old.secondary q r) t))
  block-own Tertiary q t =
      let old = known (newest n xs known q) in
      ap (λ (f : ℕ → ℕ → ℕ). flat_map (λ r. map (f r) (range_with_len 0 n)) (range_with_len 0 n))
      (fun_ext (λ r. fun_ext (λ s. cond-true (has xs q) (new_secondary n xs a known r s) (old.tertiary q r s) t)))

  -- the block of any other is that of the newest
  block-newest : (level : Level) (q : ℕ) → has xs q ≡ false → block level n next q ≡ block level n (known (newest n xs known q)) q
  block-newest Primary q f =
      let old = known (newest n xs known q) in
      ap (λ v. v ∷ []) (cond-false (has xs q) (number_of n a (new_label n xs a known)) (old.primary q) f)
  block-newest Secondary q f =
      let old = known (newest n xs known q) in
      ap (λ g. map g (range_with_len 0 n)) (fun_ext (λ r. cond-false (has xs q) (new_primary n xs a known r) (old.secondary q r) f))
  block-newest Tertiary q f =
      let old = known (newest n xs known q) in
      ap (λ (g : ℕ → ℕ → ℕ). flat_map (λ r. map (g r) (range_with_len 0 n)) (range_with_len 0 n))
      (fun_ext (λ r. fun_ext (λ s. cond-false (has xs q) (new_secondary n xs a known r s) (old.tertiary q r s) f)))

  -- a source is right: q takes part, or it names the row of the newest for q
  abbrev pub IsRight : Level → List (List ℕ) → ℕ → Option ℕ → Type 0
  IsRight level rows q None = has xs q ≡ true
  IsRight level rows q (Some b) = (has xs q ≡ false) × (get_or rows b [] ≡ level_of level (rows_of n (known (newest n xs known q))))

  entry-right : (level : Level) (rows : List (List ℕ)) (own : List ℕ) (i q j : ℕ) (o : Option ℕ) → own ≡ own_block level → q < n → j < width level n →
      q * width level n + j ≡ i → IsRight level rows q o →
      get_or (block level n next q) j 0 ≡ option_map_or (λ b. get_or (get_or rows b []) i 0) o (get_or own j 0)
  entry-right level rows own i q j None e lq lj at right = ap (λ xs. get_or xs j 0) (block-own level q right ∙ sym e)
  entry-right level rows own i q j (Some b) e lq lj at right =
      ap (λ xs. get_or xs j 0) (block-newest level q right.0)
      ∙ sym (row-entry level n (known (newest n xs known q)) q j lq lj)
      ∙ ap (λ k. get_or (level_of level (rows_of n (known (newest n xs known q)))) k 0) at
      ∙ ap (λ xs. get_or xs i 0) (sym right.1)

  -- so the entries that right sources give make the row after the event
  pub row-joined : (level : Level) (rows : List (List ℕ)) (own : List ℕ) (sources : List (Option ℕ)) (size : ℕ) → size ≡ n * width level n →
      own ≡ own_block level →
      ((q : ℕ) → q < n → IsRight level rows q (get_or sources q None)) →
      map (joined_entry own sources rows) (range_with_len 0 size) ≡ level_of level (rows_of n next)
  row-joined level rows own sources size e s right =
      sym (fill_by_all (joined_entry own sources rows) (level_of level (rows_of n next)) size 0 (length-row level n next ∙ sym e)
      (λ i l. entry i (omega arith)))
    where
      positive : (m k i : ℕ) → i < k * m → 0 < m
      positive zero k i l = let z = mul-zero k in absurd (omega arith)
      positive (suc m) k i l = omega arith

      entry : (i : ℕ) → i < n * width level n → get_or (level_of level (rows_of n next)) i 0 ≡ joined_entry own sources rows i
      entry i l =
          let m : ℕ = width level n in
          let pos : 0 < m = positive m n i l in
          let q : ℕ = i / m in
          let j : ℕ = i % m in
          let lq : q < n = (div-lt_iff_lt-mul pos).1 l in
          let lj : j < m = mod-lt i pos in
          let at : q * m + j ≡ i = div-add-mod' i m in
          let long : m ≡ length own = sym (ap length s ∙ length-own level) in
          ap (λ k. get_or (level_of level (rows_of n next)) k 0) (sym at)
          ∙ row-entry level n next q j lq lj
          ∙ entry-right level rows own i q j (get_or sources q None) s lq lj at (right q lq)
          ∙ ap (λ k. option_map_or (λ b. get_or (get_or rows b []) i 0) (get_or sources (i / k) None) (get_or own (i % k) 0)) long
