-- What the rows of the participants hold.
use Rattle.std.proofs.Common.{◌≡◌, ℕ, ◌+◌, ◌*◌, ◌<◌, ◌≤◌, Bool, true, false, ◌||◌, ◌==◌, inl, inr, List, [], ◌∷◌, length, get_or, slice_index, take, map}
use Rattle.std.proofs.Common.{Option, Some, refl, sym, ap, subst, ◌∙◌, arith}
use Rattle.std.specs.List.{range_with_len, list_any, slice_get}
use Rattle.std.specs.Option.{option_map_or}
use Rattle.std.proofs.Math.Seq.{take-length}
use Rattle.std.proofs.lemmas.Bool.{or_cases, or_left, or_right}
use Rattle.std.proofs.lemmas.List.{length-map, get_or-map, take_more}
use Rattle.std.proofs.lemmas.List.FromFn.{length-map-range_with_len, get_or-map-range_with_len}
use Rattle.std.proofs.lemmas.Option.{slice_get-get_or}
use Rattle.za_alpha.specs.Words.{has}
use Rattle.za_alpha.specs.Alphabet.{DistributedAlphabet, IsDistributed, loc_of, procs_at}
use Rattle.za_order.specs.Views.{participants, in_view}
use Rattle.za_order.specs.Entries.{primary}
use Rattle.za_order.specs.Locals.{Ids, ids, best}
use Rattle.za_order.proofs.Options.{option-cases}
use Rattle.za_order.proofs.Sets.{has-append, has-single, has-here}
use Rattle.za_gossip.specs.Rows.{Rows, rows_of, rows_after, AreRowsAfter}
use Rattle.za_order.proofs.LatestNews.{IsLeastNewest, IsMore, least-single, least-stays, least-moves, best-least}
use Rattle.za_gossip.proofs.Numbers.{seen}
use Rattle.za_order.proofs.Ranges.{any-same}
use Rattle.za_gossip.proofs.Blocks.{entry-of-block}
use Rattle.za_order.proofs.Rising.{rising-members, has-place}

-- of the first y participants of a, that at i is the least that knows the latest event of r that each of them knows
abbrev pub IsBestOf : DistributedAlphabet → ℕ → List ℕ → ℕ → ℕ → ℕ → Type 0
IsBestOf alphabet a w r y i = IsLeastNewest (participants (loc_of alphabet) w) (length w) (take y (loc_of alphabet a)) r (get_or (loc_of alphabet a) i 0)

-- the same of each word with these rows, where there are at least y participants and i is below y
pub record IsBestSoFar (alphabet : DistributedAlphabet) (a : ℕ) (inputs : List Rows) (r y i : ℕ) : Type 0 where
  pub some : y ≤ length inputs
  pub below : i < y
  pub best : (w : List ℕ) → AreRowsAfter alphabet w (loc_of alphabet a) inputs → IsBestOf alphabet a w r y i

module _ (alphabet : DistributedAlphabet) (a : ℕ) (whole : IsDistributed alphabet) (small : a < length alphabet.letters) (inputs : List Rows) (w : List ℕ)
    (given : AreRowsAfter alphabet w (loc_of alphabet a) inputs) where
  abbrev loc : ℕ → List ℕ
  loc = loc_of alphabet

  abbrev n : ℕ
  n = alphabet.processes

  abbrev xs : List ℕ
  xs = loc a

  abbrev who : ℕ → List ℕ
  who = participants loc w

  abbrev known : ℕ → Ids
  known = ids loc n w (length w)

  -- there are as many as participants, and there is one
  pub inputs-length : length inputs ≡ length xs
  inputs-length = ap length given.rows ∙ length-map xs (rows_after loc n w)

  pub inputs-some : 0 < length inputs
  inputs-some =
      let p = whole.located.some a small in
      let l = has-length xs p.0 p.1 in
      let e = inputs-length in omega arith
    where
      has-length : (ps : List ℕ) (p : ℕ) → has ps p ≡ true → 0 < length ps
      has-length [] p h = cc
      has-length (q ∷ ps) p h = omega arith

  pub input-at : (i : ℕ) (d : Rows) → i < length inputs → get_or inputs i d ≡ rows_of n (known (get_or xs i 0))
  input-at i d l =
      ap (λ rows. get_or rows i d) given.rows ∙ get_or-map (rows_after loc n w) xs i 0 d (let e = inputs-length in omega arith)

  pub primary-length : (i : ℕ) (d : Rows) → i < length inputs → length (get_or inputs i d).primary ≡ n
  primary-length i d l = ap (λ (rows : Rows). length rows.primary) (input-at i d l) ∙ length-map-range_with_len (known (get_or xs i 0)).primary 0 n

  pub primary-at : (i r : ℕ) (d : Rows) → i < length inputs → r < n → slice_index (get_or inputs i d).primary r ≡ (known (get_or xs i 0)).primary r
  primary-at i r d l lr =
      ap (λ (rows : Rows). slice_index rows.primary r) (input-at i d l) ∙ get_or-map-range_with_len (known (get_or xs i 0)).primary 0 n r r 0 lr (omega arith)

  pub secondary-at : (i q r : ℕ) (d : Rows) → i < length inputs → q < n → r < n →
      slice_index (get_or inputs i d).secondary (q * n + r) ≡ (known (get_or xs i 0)).secondary q r
  secondary-at i q r d l lq lr =
      let own = (known (get_or xs i 0)).secondary in
      ap (λ (rows : Rows). slice_index rows.secondary (q * n + r)) (input-at i d l)
      ∙ entry-of-block (λ q. map (own q) (range_with_len 0 n)) n (λ q. length-map-range_with_len (own q) 0 n) n q r lq lr
      ∙ get_or-map-range_with_len (own q) 0 n r r 0 lr (omega arith)

  -- the test of the rows of the participants at i and y
  pub knows-at : (i y r : ℕ) (own other : Rows) (event : ℕ) → i < length inputs → y < length inputs → r < n →
      own ≡ get_or inputs i own → other ≡ get_or inputs y other → event ≡ slice_index other.primary r →
      (event == 0 || list_any (λ q. slice_index own.secondary (q * n + r) == event) (range_with_len 0 n))
      ≡ option_map_or (λ f. in_view who (length w) (get_or xs i 0 ∷ []) f) (primary who (length w) (get_or xs y 0) r) true
  knows-at i y r own other event li ly lr isi isy same =
      let number = (known (get_or xs y 0)).primary r in
      let test : ℕ → Bool = λ v. v == 0 || list_any (λ q. slice_index own.secondary (q * n + r) == v) (range_with_len 0 n) in
      ap test (same ∙ ap (λ (rows : Rows). slice_index rows.primary r) isy ∙ primary-at y r other ly lr)
      ∙ ap (λ b. number == 0 || b)
      (any-same (λ q. slice_index own.secondary (q * n + r) == number) (λ q. (known (get_or xs i 0)).secondary q r == number) n
      (λ q lq. ap (λ v. v == number) (ap (λ (rows : Rows). slice_index rows.secondary (q * n + r)) isi ∙ secondary-at i q r own li lq lr)))
      ∙ seen loc (length alphabet.letters) n w whole.located given.word (length w) (omega arith) r (get_or xs i 0) (get_or xs y 0)

  -- the first y + 1 participants are the first y, and one above them
  more-at : (y : ℕ) → y < length xs → IsMore (take y xs) (get_or xs y 0) (take (y + 1) xs)
  more-at y l =
      let x : ℕ = get_or xs y 0 in
      let next : (z : ℕ) → has (take (y + 1) xs) z ≡ (has (take y xs) z || has (x ∷ []) z) = λ z. ap (λ zs. has zs z) (take_more xs y 0 l)
      ∙ has-append (take y xs) (x ∷ []) z in
      record {
        here = next x ∙ or_right (has (take y xs) x) (has (x ∷ []) x) (has-here x x [] refl);
        there = λ z h. next z ∙ or_left (has (take y xs) z) (has (x ∷ []) z) h;
        only = λ z h. elim (or_cases (has (take y xs) z) (has (x ∷ []) z) (sym (next z) ∙ h)) [
          | inl t ↦ inr t
          | inr t ↦ inl (sym (has-single x z t))
        ];
      }

  pub best-first : (r : ℕ) → 0 < length inputs → IsBestOf alphabet a w r 1 0
  best-first r l =
      let one : take 1 xs ≡ get_or xs 0 0 ∷ [] = take_more xs 0 0 (let e = inputs-length in omega arith) in
      subst (λ zs. IsLeastNewest who (length w) zs r (get_or xs 0 0)) (sym one) (least-single who (length w) (get_or xs 0 0) r)

  pub best-stays : (r y i : ℕ) → y < length inputs → IsBestOf alphabet a w r y i →
      option_map_or (λ f. in_view who (length w) (get_or xs i 0 ∷ []) f) (primary who (length w) (get_or xs y 0) r) true ≡ true →
      IsBestOf alphabet a w r (y + 1) i
  best-stays r y i l k h =
      let e = inputs-length in
      least-stays who (length w) (take y xs) (get_or xs y 0) (take (y + 1) xs) r (get_or xs i 0) (more-at y (omega arith))
      (λ x t. (rising-members (procs_at alphabet.letters a)).above y x (omega arith) t) k
      (λ f p. subst (λ o. option_map_or (λ f. in_view who (length w) (get_or xs i 0 ∷ []) f) o true ≡ true) p h)

  pub best-moves : (r y i : ℕ) → y < length inputs → IsBestOf alphabet a w r y i →
      option_map_or (λ f. in_view who (length w) (get_or xs i 0 ∷ []) f) (primary who (length w) (get_or xs y 0) r) true ≡ false →
      IsBestOf alphabet a w r (y + 1) y
  best-moves r y i l k h =
      let e = inputs-length in
      let test = λ (o : Option ℕ). option_map_or (λ f. in_view who (length w) (get_or xs i 0 ∷ []) f) o true in
      elim (option-cases (primary who (length w) (get_or xs y 0) r)) [
        | inl none ↦ absurd (let c : true ≡ false = sym (ap test none) ∙ h in cc)
        | inr one ↦ least-moves who (length w) (take y xs) (get_or xs y 0) (take (y + 1) xs) r (get_or xs i 0) one.0 (more-at y (omega arith)) k one.1
            (sym (ap test one.1) ∙ h)
      ]

  pub best-last : (r y i : ℕ) → i < length inputs → y ≡ length inputs → IsBestOf alphabet a w r y i → slice_get xs i ≡ Some (best who n (length w) xs r)
  best-last r y i l e k =
      let all : take y xs ≡ xs = ap (λ m. take m xs) (e ∙ inputs-length) ∙ take-length xs in
      let here : i < length xs = (let e = inputs-length in omega arith) in
      slice_get-get_or xs i 0 here
      ∙ ap (λ v. Some v) (sym (best-least who (length w) n xs r (get_or xs i 0) (whole.located.below a (get_or xs i 0) small (has-place xs i here))
      (subst (λ zs. IsLeastNewest who (length w) zs r (get_or xs i 0)) all k)))
