-- The generated table is whole, and has every diamond.
use Rattle.std.proofs.Common.{◌≡◌, ℕ, ◌+◌, ◌*◌, ◌/◌, ◌%◌, ◌<◌, Bool, true, false, not, ◌||◌, ◌&&◌, ◌==◌, inl, inr, List, [], ◌∷◌, length}
use Rattle.std.proofs.Common.{slice_index, refl, sym, ap, ◌∙◌, arith, ltb-true, eqb-true, zero-add}
use Rattle.std.specs.Prelude.{nat_lt}
use Rattle.std.specs.List.{list_all, range_with_len, All}
use Rattle.std.proofs.lemmas.Bool.{and_parts, or_cases, lt-ltb, cond-true}
use Rattle.std.proofs.lemmas.List.{get_or-map}
use Rattle.std.proofs.lemmas.List.Elements.{All-nil, All-cons}
use Rattle.std.proofs.lemmas.List.FromFn.{get_or-range_with_len, length-range_with_len}
use Rattle.std.proofs.lemmas.Nat.{div-mul-add, mod-mul-add}
use Rattle.za_alpha.specs.Words.{independent}
use Rattle.za_alpha.specs.Procs.{members_below}
use Rattle.za_alpha.specs.Alphabet.{loc_of}
use Rattle.za_dfa.specs.Automata.{IsTraceClosed, HasDiamonds}
use Rattle.za_dfa.specs.Tables.{CompleteDfa, IsComplete, table_with, automaton_of, step_of}
use Rattle.za_dfa.proofs.TableLemmas.{total_of_complete}
use Rattle.za_dfa.proofs.Diamonds.{diamonds_close_the_language}
use Rattle.za_gen.specs.Generated.{generated_alphabet, generated_targets, accepting_at, next_state}
use Rattle.za_gen.proofs.Each.{test-each}
use Rattle.za_gen.proofs.Whole.{generated-distributed}

all-below : (n : ℕ) (xs : List ℕ) → list_all (λ t. nat_lt t n) xs ≡ true → All (λ t. t < n) xs
all-below n [] h = All-nil (λ t. t < n)
all-below n (x ∷ xs) h = let b = and_parts (nat_lt x n) (list_all (λ t. nat_lt t n) xs) h in All-cons (λ t. t < n) x xs (ltb-true x n b.0) (all-below n xs b.1)

targets-small : list_all (λ t. nat_lt t 8) generated_targets ≡ true
targets-small = refl

abbrev is_diamond : ℕ → ℕ → ℕ → Bool
is_diamond q a b = not (independent (loc_of generated_alphabet) a b) || (next_state (next_state q a) b == next_state (next_state q b) a)

-- each diamond is there
all-diamonds : list_all (λ q. list_all (λ a. list_all (λ b. is_diamond q a b) (range_with_len 0 8)) (range_with_len 0 8)) (range_with_len 0 8) ≡ true
unfolding members_below
all-diamonds = refl

diamond-at : (q a b : ℕ) → q < 8 → a < 8 → b < 8 → independent (loc_of generated_alphabet) a b ≡ true →
    next_state (next_state q a) b ≡ next_state (next_state q b) a
diamond-at q a b lq la lb free =
    let x = test-each (λ r. list_all (λ c. list_all (λ d. is_diamond r c d) (range_with_len 0 8)) (range_with_len 0 8)) 8 q all-diamonds lq in
    let y = test-each (λ c. list_all (λ d. is_diamond q c d) (range_with_len 0 8)) 8 a x la in
    let z : is_diamond q a b ≡ true = test-each (λ d. is_diamond q a d) 8 b y lb in
    elim (or_cases (not (independent (loc_of generated_alphabet) a b)) (next_state (next_state q a) b == next_state (next_state q b) a) z) [
      | inl f ↦ absurd (let g : not (independent (loc_of generated_alphabet) a b) ≡ false = ap not free in let e : true ≡ false = sym f ∙ g in cc)
      | inr t ↦ eqb-true (next_state (next_state q a) b) (next_state (next_state q b) a) t
    ]

pub next-below : (q a : ℕ) → q < 8 → a < 8 → next_state q a < 8
next-below q a lq la =
    let t = test-each (λ r. list_all (λ c. nat_lt (next_state r c) 8) (range_with_len 0 8)) 8 q refl lq in
    ltb-true (next_state q a) 8 (test-each (λ c. nat_lt (next_state q c) 8) 8 a t la)

module _ (reached : ℕ) where
  abbrev d : CompleteDfa
  d = table_with generated_alphabet 0 (accepting_at reached) generated_targets

  pub generated-complete : IsComplete d
  generated-complete =
      record {
        distributed = generated-distributed;
        some_state = omega arith;
        few_states = omega arith;
        starts = omega arith;
        accepting_length = refl;
        targets_length = refl;
        targets_below = all-below 8 generated_targets targets-small;
      }

  -- the table's steps are those of the rule
  pub step-is : (q a : ℕ) → q < 8 → a < 8 → step_of d q a ≡ next_state q a
  step-is q a lq la =
      let i : ℕ = q * 8 + a in
      let li : i < 64 = omega arith in
      let f : ℕ → ℕ = λ j. next_state (j / 8) (j % 8) in
      let long : i < length (range_with_len 0 64) = omega (arith, length-range_with_len 0 64) in
      let at : slice_index generated_targets i ≡ f i = get_or-map f (range_with_len 0 64) i 0 0 long ∙ ap f (get_or-range_with_len 0 64 i 0 li ∙ zero-add i) in
      let both : (nat_lt q 8 && nat_lt a 8) ≡ true = and-true (nat_lt q 8) (nat_lt a 8) (lt-ltb q 8 lq) (lt-ltb a 8 la) in
      cond-true (nat_lt q 8 && nat_lt a 8) (slice_index generated_targets i) q both ∙ at
      ∙ ap (λ x. next_state x (i % 8)) (div-mul-add q 8 a la) ∙ ap (next_state q) (mod-mul-add q 8 a la)
    where
      and-true : (x y : Bool) → x ≡ true → y ≡ true → (x && y) ≡ true
      and-true true y h k = k
      and-true false y h k = absurd (cc)

  pub generated-diamonds : HasDiamonds (loc_of generated_alphabet) (automaton_of d)
  generated-diamonds q a b lq la lb free =
      ap (λ x. step_of d x b) (step-is q a lq la) ∙ step-is (next_state q a) b (next-below q a lq la) lb ∙ diamond-at q a b lq la lb free
      ∙ sym (step-is (next_state q b) a (next-below q b lq lb) la) ∙ ap (λ x. step_of d x a) (sym (step-is q b lq lb))

  pub generated-closed : IsTraceClosed (loc_of generated_alphabet) (automaton_of d)
  generated-closed =
      diamonds_close_the_language (loc_of generated_alphabet) 4 (automaton_of d) generated-distributed.located
      (total_of_complete d generated-complete) generated-diamonds
