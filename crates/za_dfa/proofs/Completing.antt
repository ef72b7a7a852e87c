-- What the completion of a partial table is.
use Rattle.std.proofs.Common.{◌≡◌, ℕ, zero, suc, ◌+◌, ◌*◌, ◌<◌, ◌≤◌, Bool, true, false, ◌&&◌, cond, List, [], ◌∷◌, ◌++◌, length, map, replicate, get_or, Option}
use Rattle.std.proofs.Common.{Some, None, refl, ap, ◌∙◌, arith, length-append}
use Rattle.std.specs.Prelude.{All, is_some, unwrap_or, nat_lt, slice_index_or}
use Rattle.std.specs.List.{list_all}
use Rattle.std.proofs.lemmas.Bool.Decides.{nat_tests}
use Rattle.std.proofs.lemmas.List.{length-map, length-replicate}
use Rattle.std.proofs.lemmas.List.Elements.{All-head, All-tail}
use Rattle.std.proofs.lemmas.Nat.{mul-add-lt}
use Rattle.za_dfa.specs.Limits.{most_states}
use Rattle.za_dfa.specs.Tables.{CompleteDfa, step_of, target_at, IsComplete}
use Rattle.za_dfa.specs.Partials.{PartialDfa, target_of, is_whole, completion, whole_of, IsPartial}

-- the target of a cell in the completed table, where the added state is n and m cells are appended
abbrev filled : List (Option ℕ) → ℕ → ℕ → Bool → List ℕ
filled cells n m whole = cond whole (map (λ cell. unwrap_or cell n) cells) (map (λ cell. unwrap_or cell n) cells ++ replicate m n)

filled_at : (cells : List (Option ℕ)) (n m i d : ℕ) → i < length cells + m →
    get_or (map (λ cell. unwrap_or cell n) cells ++ replicate m n) i d ≡ unwrap_or (slice_index_or cells i None) n
filled_at [] n m i d h = at m i (omega arith)
  where
    at : (m i : ℕ) → i < m → get_or (replicate m n) i d ≡ n
    at zero i h = absurd (omega arith)
    at (suc m) zero h = refl
    at (suc m) (suc i) h = at m i (omega arith)
filled_at (cell ∷ cells) n m zero d h = refl
filled_at (cell ∷ cells) n m (suc i) d h = filled_at cells n m i d (omega arith)

given_at : (cells : List (Option ℕ)) (n i d : ℕ) → i < length cells →
    get_or (map (λ cell. unwrap_or cell n) cells) i d ≡ unwrap_or (slice_index_or cells i None) n
given_at [] n i d h = absurd (omega arith)
given_at (cell ∷ cells) n zero d h = refl
given_at (cell ∷ cells) n (suc i) d h = given_at cells n i d (omega arith)

some_at : (cells : List (Option ℕ)) (i : ℕ) → list_all is_some cells ≡ true → i < length cells → is_some (slice_index_or cells i None) ≡ true
some_at [] i all h = absurd (omega arith)
some_at (None ∷ cells) i all h = absurd (cc)
some_at (Some t ∷ cells) zero all h = refl
some_at (Some t ∷ cells) (suc i) all h = some_at cells i all (omega arith)

-- a cell's target is a state, and so is the added state
filled_below : (o : Option ℕ) (n : ℕ) → ((t : ℕ) → o ≡ Some t → t < n) → unwrap_or o n < n + 1
filled_below None n h = omega arith
filled_below (Some t) n h = let below = h t refl in omega arith

given_below : (o : Option ℕ) (n : ℕ) → is_some o ≡ true → ((t : ℕ) → o ≡ Some t → t < n) → unwrap_or o n < n
given_below None n t h = absurd (cc)
given_below (Some t) n some h = h t refl

module _ (cells : List (Option ℕ)) (n m : ℕ) (size : length cells ≡ n * m) where
  filled_length : (whole : Bool) → length (filled cells n m whole) ≡ cond whole n (n + 1) * m
  filled_length true = length-map cells (λ cell. unwrap_or cell n) ∙ size
  filled_length false =
      let given = length-map cells (λ cell. unwrap_or cell n) in
      let all = length-append (map (λ cell. unwrap_or cell n) cells) (replicate m n) in
      let added = length-replicate m n in
      omega arith

  all_below : (whole : Bool) → list_all is_some cells ≡ whole → ((i t : ℕ) → slice_index_or cells i None ≡ Some t → t < n) →
      All (λ t. t < cond whole n (n + 1)) (filled cells n m whole)
  all_below true all below k d h =
      let inside : k < length cells = let given = length-map cells (λ cell. unwrap_or cell n) in omega arith in
      rw (given_at cells n k d inside) (given_below (slice_index_or cells k None) n (some_at cells k all inside) (below k))
  all_below false some below k d h =
      let inside : k < length cells + m = let long = filled_length false in omega arith in
      rw (filled_at cells n m k d inside) (filled_below (slice_index_or cells k None) n (below k))

  -- each target of the completed table: that of the cell, and the added state where there is none
  filled_target : (whole : Bool) (i : ℕ) → i < cond whole n (n + 1) * m → get_or (filled cells n m whole) i 0 ≡ unwrap_or (slice_index_or cells i None) n
  filled_target true i h = given_at cells n i 0 (omega arith)
  filled_target false i h = filled_at cells n m i 0 (omega arith)

accepting_length : (whole : Bool) (accepting : List Bool) (n : ℕ) → length accepting ≡ n →
    length (cond whole accepting (accepting ++ false ∷ [])) ≡ cond whole n (n + 1)
accepting_length true accepting n size = size
accepting_length false accepting n size = omega (arith, length-append accepting (false ∷ []))

states_bounds : (whole : Bool) (n : ℕ) → (n ≤ cond whole n (n + 1)) × (cond whole n (n + 1) ≤ n + 1)
states_bounds true n = (omega arith, omega arith)
states_bounds false n = (omega arith, omega arith)

-- the completed table is complete
pub completion_complete : (partial : PartialDfa) → IsPartial partial → IsComplete (completion partial)
completion_complete partial h =
    let whole = is_whole partial in
    let n = partial.states in
    let m = length partial.alphabet.letters in
    let bounds = states_bounds whole n in
    record {
      distributed = h.distributed;
      some_state = let some = h.some_state in omega arith;
      few_states = let few = h.few_states in omega arith;
      starts = let starts = h.starts in omega arith;
      accepting_length = accepting_length whole partial.accepting n h.accepting_length;
      targets_length = filled_length partial.targets n m h.targets_length whole;
      targets_below = all_below partial.targets n m h.targets_length whole refl h.targets_below;
    }

-- in the completed table a letter leads where it does in the partial one, and else to the added state
pub step_of_completion : (partial : PartialDfa) (q a : ℕ) → length partial.targets ≡ partial.states * length partial.alphabet.letters →
    q < (completion partial).states → a < length partial.alphabet.letters →
    step_of (completion partial) q a ≡ unwrap_or (target_of partial q a) partial.states
step_of_completion partial q a size hq ha =
    let m = length partial.alphabet.letters in
    let total = (completion partial).states in
    let inside : q * m + a < total * m = let cell = mul-add-lt q m a total hq ha in omega arith in
    let here : (nat_lt q total && nat_lt a m) ≡ true = grind (arith, nat_tests) in
    ap (λ known. cond known (target_at (completion partial) q a) q) here
    ∙ filled_target partial.targets partial.states m size (is_whole partial) (q * m + a) inside

-- the parts of the completed table, where it is known whether a state is added
pub completion_by : (partial : PartialDfa) (whole : Bool) → is_whole partial ≡ whole →
    completion partial
    ≡ record {
      alphabet = partial.alphabet;
      states = cond whole partial.states (partial.states + 1);
      start = partial.start;
      accepting = cond whole partial.accepting (partial.accepting ++ false ∷ []);
      targets = filled partial.targets partial.states (length partial.alphabet.letters) whole;
    }
completion_by partial whole e =
    let made : Bool → CompleteDfa = λ w. record {
      alphabet = partial.alphabet;
      states = cond w partial.states (partial.states + 1);
      start = partial.start;
      accepting = cond w partial.accepting (partial.accepting ++ false ∷ []);
      targets = filled partial.targets partial.states (length partial.alphabet.letters) w;
    } in
    ap made e

all_some : (targets : List ℕ) → list_all is_some (map (λ (t : ℕ). Some t) targets) ≡ true
all_some [] = refl
all_some (t ∷ targets) = all_some targets

given_back : (targets : List ℕ) (n : ℕ) → map (λ cell. unwrap_or cell n) (map (λ (t : ℕ). Some t) targets) ≡ targets
given_back [] n = refl
given_back (t ∷ targets) n = ap (λ ts. t ∷ ts) (given_back targets n)

-- the completion of a complete table is the table
pub whole_completes : (d : CompleteDfa) → completion (whole_of d) ≡ d
whole_completes d =
    let with : List ℕ → CompleteDfa =
    λ targets. record { alphabet = d.alphabet; states = d.states; start = d.start; accepting = d.accepting; targets = targets } in
    completion_by (whole_of d) true (all_some d.targets) ∙ ap with (given_back d.targets d.states)

target_there : (targets : List ℕ) (n i t : ℕ) → All (λ r. r < n) targets → slice_index_or (map (λ (r : ℕ). Some r) targets) i None ≡ Some t → t < n
target_there [] n i t below h = absurd (cc)
target_there (r ∷ targets) n zero t below h = let first = All-head (λ r. r < n) r targets below in let same : r ≡ t = cc in omega arith
target_there (r ∷ targets) n (suc i) t below h = target_there targets n i t (All-tail (λ r. r < n) r targets below) h

-- a complete table within the limit is a partial one
pub whole_partial : (d : CompleteDfa) → IsComplete d → d.states ≤ most_states → IsPartial (whole_of d)
whole_partial d whole few =
    record {
      distributed = whole.distributed;
      some_state = whole.some_state;
      few_states = few;
      starts = whole.starts;
      accepting_length = whole.accepting_length;
      targets_length = length-map d.targets (λ (t : ℕ). Some t) ∙ whole.targets_length;
      targets_below = λ i t. target_there d.targets d.states i t whole.targets_below;
    }
