-- Names of processes: each is found at its own process.
use Rattle.std.proofs.Common.{◌≡◌, ◌≢◌, ◌∙◌, sym, ap, refl, ℕ, zero, suc, ◌+◌, ◌<◌, ◌≤◌, Bool, true, false, cond, inl, inr, List, [], ◌∷◌, ◌++◌, length, get_or}
use Rattle.std.proofs.Common.{map, drop, arith, Some, None, add-one, drop-cons, length-append}
use Rattle.std.specs.Prelude.{decimal, is_some}
use Rattle.std.specs.List.{position_from}
use Rattle.std.specs.Str.{bytes_eq}
use Rattle.std.proofs.lemmas.Bool.{cases_Bool, cases_lt}
use Rattle.std.proofs.lemmas.Slice.Eq.{bytes_eq-Decides}
use Rattle.std.proofs.lemmas.Fmt.{decimal_digit}
use Rattle.std.specs.declared.alloc.Global.{Global}
use Rattle.std.specs.declared.vec.Vec.{Vec}
use Rattle.std.proofs.Math.ListN.{get_or-append}
use Rattle.std.proofs.lemmas.List.{get_or-map}
use Rattle.std.proofs.lemmas.List.FromFn.{length-map-range_with_len, get_or-map-range_with_len, map-range_with_len_more}
use Rattle.za_alpha.specs.Limits.{most_processes}
use Rattle.za_text.specs.Private.NamesInside.{bytes_of}
use Rattle.za_text.specs.ProcessNames.{name_of, process_named, numbered, AreApart, AreNames}

-- the search goes on after a name that isn't the word, and ends at one that is
pub search_on : (names : List (List ℕ)) (word : List ℕ) (p : ℕ) → p < length names →
    position_from (λ name. bytes_eq name word) p (drop p names)
    ≡ cond (bytes_eq (name_of names p) word) (Some p) (position_from (λ name. bytes_eq name word) (p + 1) (drop (p + 1) names))
search_on names word p h = ap (position_from (λ name. bytes_eq name word) p) (drop-cons names p [] h) ∙ rw (add-one p) refl

-- the name at a place of the fields
pub name-inside : (items : List (Vec ℕ Global)) (names : List (List ℕ)) (p : ℕ) (v : Vec ℕ Global) → map bytes_of items ≡ names → v ≡ get_or items p v →
    p < length items → name_of names p ≡ v.items
name-inside items names p v view is within =
    ap (λ ns. name_of ns p) (sym view) ∙ get_or-map bytes_of items p v [] within ∙ ap bytes_of (sym is)

-- a word that no process has differs from each name
apart_from : (names : List (List ℕ)) (word : List ℕ) (k p : ℕ) → position_from (λ name. bytes_eq name word) k names ≡ None → p < length names →
    name_of names p ≢ word
apart_from [] word k p none h e = absurd (omega arith)
apart_from (name ∷ names) word k zero none h e =
    let yes : bytes_eq name word ≡ true = (bytes_eq-Decides name word).1 e in
    let b : cond (bytes_eq name word) (Some k) (position_from (λ name. bytes_eq name word) (k + 1) names) ≡ None = none in
    let c : Some k ≡ None = rw yes at b in absurd (let t : true ≡ false = ap is_some c in cc)
apart_from (name ∷ names) word k (suc p) none h e =
    elim (cases_Bool (bytes_eq name word)) [
      | inl t ↦ absurd (let b : Some k ≡ None = rw t at none in let f : true ≡ false = ap is_some b in cc)
      | inr f ↦ let rest : position_from (λ name. bytes_eq name word) (k + 1) names ≡ None = rw f at none in
          apart_from names word (k + 1) p rest (omega arith) e
    ]

-- where names tell processes apart, each is the first of its name
found_from : (names : List (List ℕ)) (k p : ℕ) → ((q : ℕ) → q < p → name_of names q ≢ name_of names p) → p < length names →
    position_from (λ name. bytes_eq name (name_of names p)) k names ≡ Some (k + p)
found_from [] k p apart h = absurd (omega arith)
found_from (name ∷ names) k zero apart h =
    let same : bytes_eq name name ≡ true = (bytes_eq-Decides name name).1 refl in
    let e : k ≡ k + 0 = omega arith in
    rw same (ap (λ (n : ℕ). Some n) e)
found_from (name ∷ names) k (suc p) apart h =
    elim (cases_Bool (bytes_eq name (name_of names p))) [
      | inl t ↦ absurd (apart 0 (omega arith) ((bytes_eq-Decides name (name_of names p)).0 t))
      | inr f ↦
          let e : k + 1 + p ≡ k + suc p = omega arith in
          rw f (found_from names (k + 1) p (λ q low. apart (suc q) (omega arith)) (omega arith) ∙ ap (λ (n : ℕ). Some n) e)
    ]

pub finds_own : (names : List (List ℕ)) (p : ℕ) → AreApart names → p < length names → process_named names (name_of names p) ≡ Some p
finds_own names p apart h =
    found_from names 0 p (λ q low e. let same = apart q p (omega arith) h e in omega arith) h ∙ (let z : 0 + p ≡ p = omega arith in ap (λ (n : ℕ). Some n) z)

-- what is found is a process
found_below : (test : List ℕ → Bool) (k : ℕ) (names : List (List ℕ)) (p : ℕ) → position_from test k names ≡ Some p → p < k + length names
found_below test k [] p h = absurd (let b : false ≡ true = ap is_some h in cc)
found_below test k (name ∷ names) p h = found_at (test name) h (found_below test (k + 1) names p)
  where
    found_at : (b : Bool) → cond b (Some k) (position_from test (k + 1) names) ≡ Some p →
        (position_from test (k + 1) names ≡ Some p → p < k + 1 + length names) → p < k + length (name ∷ names)
    found_at true h more = let e : k ≡ p = cc in omega arith
    found_at false h more = let r = more h in omega arith

pub named_within : (names : List (List ℕ)) (word : List ℕ) (p : ℕ) → process_named names word ≡ Some p → p < length names
named_within names word p h = let below = found_below (λ name. bytes_eq name word) 0 names p h in omega arith

-- a name that no process has tells one more process apart
pub apart-more : (names : List (List ℕ)) (name : List ℕ) → AreApart names → process_named names name ≡ None → AreApart (names ++ name ∷ [])
apart-more names name apart fresh p q h k e =
    let long = length-append names (name ∷ []) in
    let last : get_or (names ++ name ∷ []) (length names) [] ≡ name = last_of names in
    elim (cases_lt p (length names)) [
      | inl i ↦
          elim (cases_lt q (length names)) [
            | inl j ↦ apart p q i j (sym (get_or-append names (name ∷ []) [] p i) ∙ e ∙ get_or-append names (name ∷ []) [] q j)
            | inr ge ↦
                let same : q ≡ length names = omega arith in
                absurd (apart_from names name 0 p fresh i (sym (get_or-append names (name ∷ []) [] p i) ∙ e ∙ ap (λ n. get_or (names ++ name ∷ []) n []) same
                ∙ last))
          ]
      | inr ge ↦
          let there : p ≡ length names = omega arith in
          elim (cases_lt q (length names)) [
            | inl j ↦ absurd (apart_from names name 0 q fresh j
                (sym (get_or-append names (name ∷ []) [] q j) ∙ sym e ∙ ap (λ n. get_or (names ++ name ∷ []) n []) there ∙ last))
            | inr more ↦ omega arith
          ]
    ]
  where
    last_of : (ns : List (List ℕ)) → get_or (ns ++ name ∷ []) (length ns) [] ≡ name
    last_of [] = refl
    last_of (n ∷ ns) = last_of ns

pub names-more : (names : List (List ℕ)) (name : List ℕ) → AreNames names → process_named names name ≡ None → length names < most_processes →
    AreNames (names ++ name ∷ [])
names-more names name h fresh room =
    let long = length-append names (name ∷ []) in
    record { few = omega arith; apart = apart-more names name h.apart fresh }

-- numbers as names
pub length-numbered : (n : ℕ) → length (numbered n) ≡ n
length-numbered n = length-map-range_with_len decimal 0 n

pub numbered-at : (n p : ℕ) → p < n → name_of (numbered n) p ≡ decimal p
numbered-at n p h = get_or-map-range_with_len decimal 0 n p p [] h (omega arith)

pub numbered-more : (n : ℕ) → numbered (n + 1) ≡ numbered n ++ decimal n ∷ []
numbered-more n = map-range_with_len_more decimal 0 n n (omega arith)

pub digit_at : (p : ℕ) → p < 10 → decimal p ≡ (48 + p) ∷ []
digit_at p h = decimal_digit p h

pub numbered-names : (n : ℕ) → n ≤ most_processes → AreNames (numbered n)
numbered-names n few =
    let long = length-numbered n in
    record {
      few = omega arith;
      apart = λ p q h k e.
          let first : (48 + p) ∷ [] ≡ (48 + q) ∷ [] = sym (digit_at p (omega arith)) ∙ sym (numbered-at n p (omega arith)) ∙ e ∙ numbered-at n q (omega arith)
          ∙ digit_at q (omega arith) in
          let same : 48 + p ≡ 48 + q = cc in omega arith;
    }
