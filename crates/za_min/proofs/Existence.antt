-- Each table has a minimal one: what the program finds in loops is found by recursion on a number.
use Rattle.std.proofs.Common.{◌≡◌, ◌≢◌, ℕ, zero, suc, ◌+◌, ◌*◌, ◌/◌, ◌%◌, ◌<◌, ◌≤◌, ◌⊎◌, inl, inr, List, [], ◌∷◌, ◌++◌, length, map, refl, sym, ap, subst, ◌∙◌}
use Rattle.std.proofs.Common.{arith, length-append}
use Rattle.std.proofs.lemmas.Bool.{cases_eq, cases_lt}
use Rattle.std.proofs.Math.Nat.{div-lt_iff_lt-mul}
use Rattle.std.proofs.lemmas.Nat.{mod_below}
use Rattle.za_dfa.specs.Automata.{Automaton, IsTotal}
use Rattle.za_dfa.specs.Tables.{CompleteDfa, automaton_of, accepts_at, table_with}
use Rattle.za_dfa.proofs.TableLemmas.{total_of_complete}
use Rattle.za_min.specs.Minimal.{word_at, IsMinimal, IsLeastApart}
use Rattle.za_min.specs.Laws.{MinimalDfasExist}
use Rattle.za_min.specs.Private.Rounds.{rounds, refine, split_word, AreClasses, AreClassesOf}
use Rattle.za_min.specs.Private.Exploring.{merged_of, state_of, AreFound, AreAllFound, IsTarget, AreTargets}
use Rattle.za_min.proofs.RoundLemmas.{stable_classes}
use Rattle.za_min.proofs.RoundSteps.{gap, round-nearer}
use Rattle.za_min.proofs.Split.{split-found, split-least}
use Rattle.za_min.proofs.Merge.{merged-total}
use Rattle.za_min.proofs.Found.{stays, grows, next-row, found-start, found-few}
use Rattle.za_min.proofs.TableSteps.{targets-more, table-complete, table-renumbers}
use Rattle.za_min.proofs.Minimised.{minimised, alike-one}

-- the first number below n of one of two kinds, or all below n are of the other
pub first_of : (P N : ℕ → Type 0) (n : ℕ) → ((k : ℕ) → P k ⊎ N k) → ((k : ℕ) × (k < n) × P k × ((j : ℕ) → j < k → N j)) ⊎ ((k : ℕ) → k < n → N k)
first_of P N zero which = inr (λ k l. absurd (omega arith))
first_of P N (suc n) which = elim (first_of P N n which) [
  | inl r ↦ inl (r.0, let l = r.1 in omega arith, r.2, r.3)
  | inr none ↦ elim (which n) [
    | inl p ↦ inl (n, omega arith, p, none)
    | inr other ↦ inr (λ k l. elim (cases_lt k n) [ inl less ↦ none k less | inr more ↦ let same : n ≡ k = omega arith in subst N same other ])
  ]
]

-- lists of numbers are equal or not
pub same_lists : (xs ys : List ℕ) → (xs ≡ ys) ⊎ (xs ≢ ys)
same_lists [] [] = inl refl
same_lists [] (y ∷ ys) = inr (λ e. cc)
same_lists (x ∷ xs) [] = inr (λ e. cc)
same_lists (x ∷ xs) (y ∷ ys) = elim (cases_eq x y) [
  | inr d ↦ inr (λ e. d (let s : x ≡ y = cc in s))
  | inl s ↦ elim (same_lists xs ys) [
    | inl t ↦ inl (ap (λ v. v ∷ xs) s ∙ ap (λ vs. y ∷ vs) t)
    | inr d ↦ inr (λ e. d (let t : xs ≡ ys = cc in t))
  ]
]

-- some round changes nothing
stable_round : (d : Automaton) (fuel k : ℕ) → gap d.states (rounds d k) < fuel → (k : ℕ) × (refine d (rounds d k) ≡ rounds d k)
stable_round d zero k l = absurd (omega arith)
stable_round d (suc fuel) k l = elim (same_lists (rounds d k) (rounds d (suc k))) [
  | inl e ↦ (k, sym e)
  | inr n ↦ stable_round d fuel (suc k) (let g = round-nearer d k n in omega arith)
]

pub classes_exist : (d : Automaton) → (c : List ℕ) × AreClasses d c
classes_exist d = let r = stable_round d (suc (gap d.states (rounds d 0))) 0 (omega arith) in (rounds d r.0, record { round = r.0; is = refl; stable = r.1 })

-- two states of a minimal automaton have a least word that tells them apart
pub least_apart : (d : Automaton) → IsTotal d → IsMinimal d → (q r : ℕ) → q < d.states → r < d.states → q ≢ r → (w : List ℕ) × IsLeastApart d q r w
least_apart d total minimal q r ql rl ne =
    let c = classes_exist d in
    let k : ℕ = c.1.round in
    let found = split-found d total k q r ql rl (λ e. ne (alike-one d q r minimal ql rl ((stable_classes d k q r total ql rl c.1.stable).0 e))) in
    (split_word d found.0 q r, split-least d total found.0 q r found.2)

module _ (d : Automaton) (total : IsTotal d) where
  -- the letters of a place from a on are done one after another
  row : (more a i : ℕ) (words : List (List ℕ)) → a + more ≡ d.letters → AreFound d i a words → i < length words → (all : List (List ℕ))
      × AreFound d i d.letters all
  row zero a i words e s il = let same : a ≡ d.letters = omega arith in (words, subst (λ b. AreFound d i b words) same s)
  row (suc more) a i words e s il =
      let next : ℕ = d.step (state_of d (word_at words i)) a in
      let new : List ℕ = word_at words i ++ a ∷ [] in
      let long : length (words ++ new ∷ []) ≡ length words + 1 = length-append words (new ∷ []) in
      elim (first_of (λ k. state_of d (word_at words k) ≡ next) (λ k. state_of d (word_at words k) ≢ next) (length words)
      (λ k. cases_eq (state_of d (word_at words k)) next)) [
        | inl k ↦ row more (suc a) i words (omega arith) (stays d i a words s il (k.0, k.1, k.2)) il
        | inr none ↦ row more (suc a) i (words ++ new ∷ []) (omega arith) (grows d i a words s il (omega arith) none) (omega arith)
      ]

  -- and place after place, of which there are no more than states
  places : (fuel i : ℕ) (words : List (List ℕ)) → d.states < i + fuel → AreFound d i 0 words → (all : List (List ℕ)) × AreAllFound d all (map (state_of d) all)
  places zero i words f s =
      let few = found-few d total i 0 words s in
      (words, record { done = i; found = record { found = s; states_each = refl }; all = omega arith })
  places (suc fuel) i words f s = elim (cases_lt i (length words)) [
    | inl l ↦ let r = row d.letters 0 i words (omega arith) s l in places fuel (suc i) r.0 (omega arith) (next-row d i r.0 r.1)
    | inr le ↦ (words, record { done = i; found = record { found = s; states_each = refl }; all = le })
  ]

  found_exist : (all : List (List ℕ)) × AreAllFound d all (map (state_of d) all)
  found_exist = places (suc d.states) 0 ([] ∷ []) (omega arith) (found-start d)

-- the targets of the first n cells
targets_exist : (d : Automaton) (words : List (List ℕ)) (states : List ℕ) → AreAllFound d words states → (n : ℕ) → n ≤ length words * d.letters →
    (targets : List ℕ) × AreTargets d words n targets
targets_exist d words states f zero l = ([], record { many = refl; each = λ i k. absurd (omega arith) })
targets_exist d words states f (suc n) l =
    let before = targets_exist d words states f n (omega arith) in
    let all = f.all in
    let some : 0 < d.letters = elim (cases_eq d.letters 0) [
      | inl e ↦ absurd (let z : suc n ≤ length words * 0 = subst (λ m. suc n ≤ length words * m) e l in omega arith)
      | inr ne ↦ omega arith
    ] in
    let place : n / d.letters < length words = (div-lt_iff_lt-mul some).1 (omega arith) in
    let met = f.found.found.met (n / d.letters) (n % d.letters) place (mod_below n d.letters some) (inl (omega arith)) in
    let target : IsTarget d words (n / d.letters) (n % d.letters) met.to = record { within = met.within; there = met.state } in
    let targets : List ℕ = before.0 ++ met.to ∷ [] in
    let more : n + 1 ≡ suc n = omega arith in
    (targets, subst (λ m. AreTargets d words m targets) more (targets-more d words n met.to before.0 targets before.1 target refl))

pub minimal_dfas_exist : MinimalDfasExist
minimal_dfas_exist dfa whole =
    let c = classes_exist (automaton_of dfa) in
    let classes : List ℕ = c.0 in
    let of : AreClassesOf dfa classes = record { whole = whole; stable = c.1 } in
    let m : Automaton = merged_of dfa classes in
    let f = found_exist m (merged-total (automaton_of dfa) (total_of_complete dfa whole) classes c.1) in
    let words : List (List ℕ) = f.0 in
    let states : List ℕ = map (state_of m) words in
    let t = targets_exist m words states f.1 (length words * length dfa.alphabet.letters) (omega arith) in
    let table : CompleteDfa = table_with dfa.alphabet 0 (map (accepts_at dfa) states) t.0 in
    let complete = table-complete dfa classes of words states f.1 dfa.alphabet refl (map (accepts_at dfa) states) refl t.0 t.1 in
    let new = table-renumbers dfa classes of words states f.1 dfa.alphabet refl (map (accepts_at dfa) states) refl t.0 t.1 in
    (table, (minimised dfa classes of words states f.1 table complete refl new).minimal)
