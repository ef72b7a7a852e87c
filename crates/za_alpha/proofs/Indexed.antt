-- Chains of letters, and the letter of a name.
use Rattle.std.proofs.Common.{◌≡◌, ◌≢◌, ℕ, zero, suc, ◌+◌, ◌<◌, ◌≤◌, true, false, inl, inr, List, [], ◌∷◌, length, slice_index, slice_set, Some, None, refl}
use Rattle.std.proofs.Common.{sym, ap, ◌∙◌, arith}
use Rattle.std.specs.List.{position_from}
use Rattle.std.specs.Str.{bytes_eq}
use Rattle.std.proofs.lemmas.Bool.{cases_Bool, cases_eq, cond-true, cond-false}
use Rattle.std.proofs.lemmas.List.{length-set, get_or-set_same, get_or-set_other}
use Rattle.std.proofs.lemmas.Slice.Eq.{bytes_eq-Decides}
use Rattle.za_alpha.specs.Limits.{most_letters}
use Rattle.za_alpha.specs.Alphabet.{NamedLetter, name_at, place_of}
use Rattle.za_alpha.specs.NewNames.{is_taken}
use Rattle.za_alpha.specs.Private.Index.{keys, key_of, key_at, AreChains}
use Rattle.za_alpha.specs.Private.Begun.{AreNamedApart}

-- none of the letters from `at` on has the name, and the letter before `at` has its key
pub record IsOnChain (letters : List NamedLetter) (name : List ℕ) (at : ℕ) : Type 0 where
  pub low : at ≤ length letters
  pub after : (j : ℕ) → at ≤ j → j < length letters → name_at letters j ≢ name
  pub key : (i : ℕ) → at ≡ suc i → key_at letters i ≡ key_of name

-- the place of the first letter that has the name
place-from : (letters : List NamedLetter) (name : List ℕ) (a i : ℕ) → i < length letters → name_at letters i ≡ name →
    ((j : ℕ) → j < i → name_at letters j ≢ name) →
    position_from (λ (l : NamedLetter). bytes_eq l.name name) a letters ≡ Some (a + i)
place-from [] name a i l h before = absurd (omega arith)
place-from (x ∷ xs) name a zero l h before =
    cond-true (bytes_eq x.name name) (Some a) (position_from (λ (l : NamedLetter). bytes_eq l.name name) (a + 1) xs) ((bytes_eq-Decides x.name name).1 h)
    ∙ (let e : a ≡ a + 0 = omega arith in ap (λ k. Some k) e)
place-from (x ∷ xs) name a (suc i) l h before =
    let other : bytes_eq x.name name ≡ false = elim (cases_Bool (bytes_eq x.name name)) [
      | inr f ↦ f
      | inl t ↦ absurd (before 0 (omega arith) ((bytes_eq-Decides x.name name).0 t))
    ] in
    cond-false (bytes_eq x.name name) (Some a) (position_from (λ (l : NamedLetter). bytes_eq l.name name) (a + 1) xs) other
    ∙ place-from xs name (a + 1) i (omega arith) h (λ j lj. before (suc j) (omega arith))
    ∙ (let e : a + 1 + i ≡ a + suc i = omega arith in ap (λ k. Some k) e)

none-from : (letters : List NamedLetter) (name : List ℕ) (a : ℕ) → ((j : ℕ) → j < length letters → name_at letters j ≢ name) →
    position_from (λ (l : NamedLetter). bytes_eq l.name name) a letters ≡ None
none-from [] name a before = refl
none-from (x ∷ xs) name a before =
    let other : bytes_eq x.name name ≡ false = elim (cases_Bool (bytes_eq x.name name)) [
      | inr f ↦ f
      | inl t ↦ absurd (before 0 (omega arith) ((bytes_eq-Decides x.name name).0 t))
    ] in
    cond-false (bytes_eq x.name name) (Some a) (position_from (λ (l : NamedLetter). bytes_eq l.name name) (a + 1) xs) other
    ∙ none-from xs name (a + 1) (λ j lj. before (suc j) (omega arith))

-- a name is taken exactly where it has a place
pub taken-some : (letters : List NamedLetter) (name : List ℕ) (a i : ℕ) → position_from (λ (l : NamedLetter). bytes_eq l.name name) a letters ≡ Some i →
    is_taken letters name ≡ true
taken-some [] name a i h = absurd (cc)
taken-some (x ∷ xs) name a i h =
    elim (cases_Bool (bytes_eq x.name name)) [
      | inl t ↦ rw t refl
      | inr f ↦ rw f (taken-some xs name (a + 1) i
          (sym (cond-false (bytes_eq x.name name) (Some a) (position_from (λ (l : NamedLetter). bytes_eq l.name name) (a + 1) xs) f) ∙ h))
    ]

pub taken-none : (letters : List NamedLetter) (name : List ℕ) (a : ℕ) → position_from (λ (l : NamedLetter). bytes_eq l.name name) a letters ≡ None →
    is_taken letters name ≡ false
taken-none [] name a h = refl
taken-none (x ∷ xs) name a h =
    elim (cases_Bool (bytes_eq x.name name)) [
      | inl t ↦ absurd (let e = sym (cond-true (bytes_eq x.name name) (Some a) (position_from (λ (l : NamedLetter). bytes_eq l.name name) (a + 1) xs) t)
          ∙ h in cc)
      | inr f ↦ rw f (taken-none xs name (a + 1)
          (sym (cond-false (bytes_eq x.name name) (Some a) (position_from (λ (l : NamedLetter). bytes_eq l.name name) (a + 1) xs) f) ∙ h))
    ]

pub taken-at : (letters : List NamedLetter) (name : List ℕ) (i : ℕ) → i < length letters → name_at letters i ≡ name → is_taken letters name ≡ true
taken-at [] name i l h = absurd (omega arith)
taken-at (x ∷ xs) name zero l h = let t : bytes_eq x.name name ≡ true = (bytes_eq-Decides x.name name).1 h in rw t refl
taken-at (x ∷ xs) name (suc i) l h =
    elim (cases_Bool (bytes_eq x.name name)) [
      | inl t ↦ rw t refl
      | inr f ↦ rw f (taken-at xs name i (omega arith) h)
    ]

module _ (letters : List NamedLetter) where
  -- found on the chain, or not there
  pub found-on-chain : (name : List ℕ) (i : ℕ) → AreNamedApart letters → i < length letters → name_at letters i ≡ name → Some i ≡ place_of letters name
  found-on-chain name i apart l h =
      sym (place-from letters name 0 i l h (λ j lj same. let e = apart j i (omega arith) l (same ∙ sym h) in omega arith)
      ∙ (let e : 0 + i ≡ i = omega arith in ap (λ k. Some k) e))

  pub off-chain : (name : List ℕ) → IsOnChain letters name 0 → None ≡ place_of letters name
  off-chain name on = sym (none-from letters name 0 (λ j lj. on.after j (omega arith) lj))

  module _ (first next : List ℕ) (chains : AreChains (key_at letters) (length letters) first next) (name : List ℕ) where
    -- the chain of the name's key begins with the last letter of the key
    pub chain-begins : key_of name < keys → IsOnChain letters name (slice_index first (key_of name))
    chain-begins small = record {
      low = chains.first_low (key_of name) small;
      after = λ j l lj same. chains.first_skips (key_of name) j small l lj (ap key_of same);
      key = λ i e. chains.first_key (key_of name) i small e;
    }

    -- and goes on where the letter has another name
    pub chain-goes-on : (i : ℕ) → IsOnChain letters name (suc i) → name_at letters i ≢ name → IsOnChain letters name (slice_index next i)
    chain-goes-on i on other =
        let low = on.low in
        let here : i < length letters = omega arith in
        let less = chains.next_low i here in
        record {
          low = omega arith;
          after = λ j l lj same. elim (Rattle.std.proofs.lemmas.Bool.cases_lt j i) [
            | inl lt ↦ chains.next_skips i j here l lt (ap key_of same ∙ sym (on.key i refl))
            | inr ge ↦ elim (cases_eq j i) [
              | inl e ↦ other (ap (name_at letters) (sym e) ∙ same)
              | inr ne ↦ on.after j (omega arith) lj same
            ]
          ];
          key = λ k e. chains.next_key i k here e ∙ on.key i refl;
        }

-- no letters yet
pub chains-none : (key : ℕ → ℕ) (first next : List ℕ) → length first ≡ keys → length next ≡ most_letters → ((k : ℕ) → k < keys → slice_index first k ≡ 0) →
    AreChains key 0 first next
chains-none key first next lf ln none = record {
  firsts = lf;
  nexts = ln;
  few = omega arith;
  first_low = λ k l. let e = none k l in omega arith;
  first_key = λ k i l h. absurd (let e = none k l in omega arith);
  first_skips = λ k j l m n. absurd (omega arith);
  next_low = λ i l. absurd (omega arith);
  next_key = λ i j l h. absurd (omega arith);
  next_skips = λ i j l m n. absurd (omega arith);
}

-- chains of letters whose keys are the same
pub chains-same : (key key' : ℕ → ℕ) (count : ℕ) (first next : List ℕ) → ((i : ℕ) → i < count → key i ≡ key' i) → AreChains key count first next →
    AreChains key' count first next
chains-same key key' count first next same chains = record {
  firsts = chains.firsts;
  nexts = chains.nexts;
  few = chains.few;
  first_low = chains.first_low;
  first_key = λ k i l h. let low = chains.first_low k l in sym (same i (omega arith)) ∙ chains.first_key k i l h;
  first_skips = λ k j l m n e. chains.first_skips k j l m n (same j n ∙ e);
  next_low = chains.next_low;
  next_key = λ i j l h. let low = chains.next_low i l in sym (same j (omega arith)) ∙ chains.next_key i j l h ∙ same i l;
  next_skips = λ i j l m n e. chains.next_skips i j l m n (same j (omega arith) ∙ e ∙ sym (same i l));
}

-- one letter more
pub chains-more : (key : ℕ → ℕ) (n : ℕ) (first next : List ℕ) → AreChains key n first next → n < most_letters → key n < keys →
    AreChains key (n + 1) (slice_set first (key n) (n + 1)) (slice_set next n (slice_index first (key n)))
chains-more key n first next chains room small =
    let firsts = chains.firsts in
    let nexts = chains.nexts in
    let own : ℕ = key n in
    let first' : List ℕ = slice_set first own (n + 1) in
    let old : ℕ = slice_index first own in
    let next' : List ℕ = slice_set next n old in
    let here : slice_index first' own ≡ n + 1 = get_or-set_same first own (n + 1) 0 (omega arith) in
    let there : (k : ℕ) → k ≢ own → slice_index first' k ≡ slice_index first k = λ k ne. get_or-set_other first own k (n + 1) 0 ne in
    let next-here : slice_index next' n ≡ old = get_or-set_same next n old 0 (omega arith) in
    let next-there : (k : ℕ) → k ≢ n → slice_index next' k ≡ slice_index next k = λ k ne. get_or-set_other next n k old 0 ne in
    let low = chains.first_low own small in
    record {
      firsts = length-set first own (n + 1) ∙ chains.firsts;
      nexts = length-set next n old ∙ chains.nexts;
      few = omega arith;
      first_low = λ k l. elim (cases_eq k own) [
        | inl e ↦ let v = ap (slice_index first') e ∙ here in omega arith
        | inr ne ↦ let v = there k ne in let b = chains.first_low k l in omega arith
      ];
      first_key = λ k i l h. elim (cases_eq k own) [
        | inl e ↦ let v = ap (slice_index first') e ∙ here in let same : i ≡ n = omega arith in ap key same ∙ sym e
        | inr ne ↦ chains.first_key k i l (sym (there k ne) ∙ h)
      ];
      first_skips = λ k j l m o. elim (cases_eq k own) [
        | inl e ↦ absurd (let v = ap (slice_index first') e ∙ here in omega arith)
        | inr ne ↦ elim (cases_eq j n) [
          | inl ej ↦ λ h. ne (sym h ∙ ap key ej)
          | inr nj ↦ chains.first_skips k j l (let v = there k ne in omega arith) (omega arith)
        ]
      ];
      next_low = λ i l. elim (cases_eq i n) [
        | inl e ↦ let v = ap (slice_index next') e ∙ next-here in omega arith
        | inr ne ↦ let v = next-there i ne in let b = chains.next_low i (omega arith) in omega arith
      ];
      next_key = λ i j l h. elim (cases_eq i n) [
        | inl e ↦ chains.first_key own j small (sym (ap (slice_index next') e ∙ next-here) ∙ h) ∙ ap key (sym e)
        | inr ne ↦ chains.next_key i j (omega arith) (sym (next-there i ne) ∙ h)
      ];
      next_skips = λ i j l m o. elim (cases_eq i n) [
        | inl e ↦ let v = ap (slice_index next') e ∙ next-here in λ h. chains.first_skips own j small (omega arith) (omega arith) (h ∙ ap key e)
        | inr ne ↦ let v = next-there i ne in chains.next_skips i j (omega arith) (omega arith) o
      ];
    }
