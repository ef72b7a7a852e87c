-- Counts of fired letters, and the letters that are next.
use Rattle.std.proofs.Common.{◌≡◌, ℕ, ◌+◌, ◌<◌, ◌≤◌, ◌&&◌, Bool, true, false, inl, inr, List, [], ◌∷◌, ◌++◌, length, slice_index, cond, nat_lt, refl, sym, ap}
use Rattle.std.proofs.Common.{◌∙◌, arith, ltb-true}
use Rattle.std.specs.List.{list_all}
use Rattle.std.proofs.lemmas.Bool.{cases_Bool, and_from, lt-ltb, le-ltb}
use Rattle.std.proofs.lemmas.List.Sums.{length-filter, count_by-le-length}
use Rattle.za_alpha.specs.Words.{has, IsAlphabet, projection}
use Rattle.za_alpha.specs.Alphabet.{DistributedAlphabet, loc_of}
use Rattle.za_alpha.proofs.Members.{and-false}
use Rattle.za_script.specs.Scripts.{comes_next, is_enabled}
use Rattle.za_script.specs.ScriptLists.{script_of}
use Rattle.za_script.proofs.Lists.{all-agree, all-at, all-from}
use Rattle.za_script.proofs.Standing.{seen-more}
use Rattle.za_audit.specs.Private.Standing.{AreCounts, is_next}

-- a letter isn't next where one of its processes has another next letter, or none
pub next-fails : (alphabet : DistributedAlphabet) (scripts : List (List ℕ)) (counts : List ℕ) (a p : ℕ) → has (loc_of alphabet a) p ≡ true →
    comes_next (script_of scripts p) (slice_index counts p) a ≡ false → is_next alphabet scripts counts a ≡ false
next-fails alphabet scripts counts a p own other =
    let test : ℕ → Bool = λ q. comes_next (script_of scripts q) (slice_index counts q) a in
    let none : list_all test (loc_of alphabet a) ≡ false =
    elim (cases_Bool (list_all test (loc_of alphabet a))) [
      | inl t ↦ absurd (let e : true ≡ false = sym (all-at test (loc_of alphabet a) p t own) ∙ other in cc)
      | inr f ↦ f
    ] in ap (λ b. nat_lt a (length alphabet.letters) && b) none ∙ and-false (nat_lt a (length alphabet.letters))

-- it is next where each of its processes has it next
pub next-holds : (alphabet : DistributedAlphabet) (scripts : List (List ℕ)) (counts : List ℕ) (a : ℕ) →
    IsAlphabet (loc_of alphabet) (length alphabet.letters) alphabet.processes → a < length alphabet.letters →
    ((p : ℕ) → p < alphabet.processes → has (loc_of alphabet a) p ≡ true → comes_next (script_of scripts p) (slice_index counts p) a ≡ true) →
    is_next alphabet scripts counts a ≡ true
next-holds alphabet scripts counts a al la next =
    let test : ℕ → Bool = λ q. comes_next (script_of scripts q) (slice_index counts q) a in
    and_from (nat_lt a (length alphabet.letters)) (list_all test (loc_of alphabet a)) (lt-ltb a (length alphabet.letters) la)
    (all-from test (loc_of alphabet a) (λ p own. next p (al.below a p la own) own))

-- a letter past the alphabet isn't next
pub next-past : (alphabet : DistributedAlphabet) (scripts : List (List ℕ)) (counts : List ℕ) (a : ℕ) → length alphabet.letters ≤ a →
    is_next alphabet scripts counts a ≡ false
next-past alphabet scripts counts a past = rw (le-ltb a (length alphabet.letters) past) refl

module _ (alphabet : DistributedAlphabet) (scripts : List (List ℕ)) (w counts : List ℕ)
    (al : IsAlphabet (loc_of alphabet) (length alphabet.letters) alphabet.processes)
    (c : AreCounts alphabet w counts) where
  -- the letters that are next are those that are enabled after the word
  pub next-is-enabled : (a : ℕ) →
      is_next alphabet scripts counts a ≡ (nat_lt a (length alphabet.letters) && is_enabled (loc_of alphabet) (script_of scripts) w a)
  next-is-enabled a =
      elim (cases_Bool (nat_lt a (length alphabet.letters))) [
        | inl t ↦
            ap (λ b. nat_lt a (length alphabet.letters) && b)
            (all-agree (λ p. comes_next (script_of scripts p) (slice_index counts p) a)
            (λ p. comes_next (script_of scripts p) (length (projection (loc_of alphabet) p w)) a) (loc_of alphabet a)
            (λ p own. ap (λ n. comes_next (script_of scripts p) n a) (c.each p (al.below a p (ltb-true a (length alphabet.letters) t) own))))
        | inr f ↦ rw f refl
      ]

  -- counts are no greater than the word is long
  pub count-le : (p : ℕ) → p < alphabet.processes → slice_index counts p ≤ length w
  count-le p lp =
      let e = c.each p lp in
      let n = length-filter (λ a. has (loc_of alphabet a) p) w in
      let k = count_by-le-length (λ a. has (loc_of alphabet a) p) w in omega arith

  -- one letter more
  pub count-more : (a : ℕ) (more : List ℕ) → length more ≡ length counts →
      ((p : ℕ) → p < alphabet.processes → slice_index more p ≡ slice_index counts p + cond (has (loc_of alphabet a) p) 1 0) →
      AreCounts alphabet (w ++ a ∷ []) more
  count-more a more size step =
      record {
        size = let s = c.size in omega arith;
        each = λ p lp. seen-more (loc_of alphabet) counts more w a p (step p lp) (c.each p lp);
      }
