-- The table of the states that were found, as it is computed.
use Rattle.std.proofs.Common.{◌≡◌, ◌≢◌, ℕ, ◌+◌, ◌*◌, ◌/◌, ◌%◌, ◌<◌, Bool, true, false, ◌&&◌, cond, inl, inr, List, [], ◌∷◌, ◌++◌, length, map, slice_index}
use Rattle.std.proofs.Common.{Option, Some, None, refl, sym, ap, subst, ◌∙◌, arith, length-append}
use Rattle.std.specs.Prelude.{MatchOption, All, nat_lt}
use Rattle.std.specs.Option.{IsSome}
use Rattle.std.proofs.lemmas.Bool.{cases_lt}
use Rattle.std.proofs.lemmas.Bool.Decides.{nat_tests}
use Rattle.std.proofs.lemmas.List.{get_or-map, length-map, get_or_default, get_or_append_left}
use Rattle.std.proofs.lemmas.Nat.{div-mul-add, mod-mul-add, mul-add-lt}
use Rattle.std.proofs.Math.Seq.{get_or-append_seam}
use Rattle.za_alpha.specs.Alphabet.{DistributedAlphabet}
use Rattle.za_dfa.specs.Automata.{Automaton}
use Rattle.za_dfa.specs.Tables.{CompleteDfa, automaton_of, accepts_at, step_of, target_at, table_with, IsComplete}
use Rattle.za_min.specs.Minimal.{word_at}
use Rattle.za_min.specs.Private.Rounds.{AreClassesOf}
use Rattle.za_min.specs.Private.Exploring.{merged_of, state_of, AreAllFound, IsTarget, AreTargets, Renumbers}
use Rattle.za_min.proofs.FoundSteps.{state-at, states-of-found, words-few}

-- a place that is found
pub some-place : (o : Option ℕ) (states : List ℕ) (q : ℕ) →
    MatchOption o ((k : ℕ) → k < length states → slice_index states k ≢ q) (λ k. (k < length states) × (slice_index states k ≡ q)) →
    (k : ℕ) → k < length states → slice_index states k ≡ q → IsSome o
some-place None states q nowhere k kl here = absurd (nowhere k kl here)
some-place (Some t) states q there k kl here = refl

pub at-place : (o : Option ℕ) (states : List ℕ) (q t : ℕ) →
    MatchOption o ((k : ℕ) → k < length states → slice_index states k ≢ q) (λ k. (k < length states) × (slice_index states k ≡ q)) →
    o ≡ Some t → (t < length states) × (slice_index states t ≡ q)
at-place o states q t m e = let P : Option ℕ → Type 0 =
    λ o. MatchOption o ((k : ℕ) → k < length states → slice_index states k ≢ q) (λ k. (k < length states) × (slice_index states k ≡ q)) in subst P e m

module _ (d : Automaton) (words : List (List ℕ)) (states : List ℕ) (f : AreAllFound d words states) where
  pub states-long : length states ≡ length words
  states-long = ap length f.found.states_each ∙ length-map words (state_of d)

  state-is : (k : ℕ) → k < length words → slice_index states k ≡ state_of d (word_at words k)
  state-is k l = ap (λ xs. slice_index xs k) f.found.states_each ∙ get_or-map (state_of d) words k [] 0 l

  -- each letter leads to a state that is found
  pub target-found : (k a next : ℕ) → k < length words → a < d.letters → next ≡ d.step (state_of d (word_at words k)) a → (t : ℕ) × (t < length states)
      × (slice_index states t ≡ next)
  target-found k a next l al e =
      let all = f.all in
      let met = f.found.found.met k a l al (inl (omega arith)) in
      let long = states-long in
      let within = met.within in
      (met.to, omega arith, state-is met.to met.within ∙ met.state ∙ sym e)

  pub target-is : (k a next t : ℕ) → next ≡ d.step (state_of d (word_at words k)) a → t < length states → slice_index states t ≡ next → IsTarget d words k a t
  target-is k a next t e tl here =
      let long = states-long in
      let within : t < length words = omega arith in
      record { within = within; there = sym (state-is t within) ∙ here ∙ e }

-- one target more
pub targets-more : (d : Automaton) (words : List (List ℕ)) (n t : ℕ) (targets targets' : List ℕ) → AreTargets d words n targets →
    IsTarget d words (n / d.letters) (n % d.letters) t → targets' ≡ targets ++ t ∷ [] → AreTargets d words (n + 1) targets'
targets-more d words n t targets targets' s new e =
    let many = s.many in
    let long = length-append targets (t ∷ []) in
    let long' = ap length e in
    record {
      many = omega arith;
      each = λ i l. elim (cases_lt i n) [
        | inl less ↦
            let old : slice_index targets' i ≡ slice_index targets i = ap (λ xs. slice_index xs i) e ∙ get_or_append_left targets (t ∷ []) 0 i (omega arith) in
            subst (λ x. IsTarget d words (i / d.letters) (i % d.letters) x) (sym old) (s.each i less)
        | inr more ↦
            let same : n ≡ i = omega arith in
            let last : slice_index targets' n ≡ t = ap (λ xs. slice_index xs n) e ∙ ap (λ k. slice_index (targets ++ t ∷ []) k) (sym many)
            ∙ get_or-append_seam targets t [] 0 in
            subst (λ j. IsTarget d words (j / d.letters) (j % d.letters) (slice_index targets' j)) same
            (subst (λ x. IsTarget d words (n / d.letters) (n % d.letters) x) (sym last) new)
      ];
    }

module _ (dfa : CompleteDfa) (classes : List ℕ) (of : AreClassesOf dfa classes) (words : List (List ℕ)) (states : List ℕ)
    (f : AreAllFound (merged_of dfa classes) words states) where
  -- the states that are found are states
  pub states-below : All (λ q. q < dfa.states) states
  states-below k d l =
      let long = states-long (merged_of dfa classes) words states f in
      let s = state-at dfa classes of words states (states-of-found dfa classes of f.done 0 words states f.found) k (omega arith) in
      subst (λ q. q < dfa.states) (get_or_default states k 0 d l) s.2

  module _ (alphabet : DistributedAlphabet) (same : alphabet ≡ dfa.alphabet) (accepting : List Bool) (answers : accepting ≡ map (accepts_at dfa) states)
      (targets : List ℕ)
      (each : AreTargets (merged_of dfa classes) words (length words * length dfa.alphabet.letters) targets) where
    letters-same : length alphabet.letters ≡ length dfa.alphabet.letters
    letters-same = ap (λ a. length a.letters) same

    accepting-long : length accepting ≡ length words
    accepting-long = ap length answers ∙ length-map states (accepts_at dfa) ∙ states-long (merged_of dfa classes) words states f

    pub table-complete : IsComplete (table_with alphabet 0 accepting targets)
    table-complete =
        let some = f.found.found.some in
        let few = words-few dfa classes of f.done 0 words states f.found in
        let most = of.whole.few_states in
        let long = accepting-long in
        record {
          distributed = rw same of.whole.distributed;
          some_state = omega arith;
          few_states = omega arith;
          starts = omega arith;
          accepting_length = refl;
          targets_length = each.many ∙ ap (λ n. n * length dfa.alphabet.letters) (sym long) ∙ ap (λ m. length accepting * m) (sym letters-same);
          targets_below = λ i d l.
              let many = each.many in
              let within = (each.each i (omega arith)).within in
              subst (λ t. t < length accepting) (get_or_default targets i 0 d l) (omega arith);
        }

    pub table-renumbers : Renumbers (merged_of dfa classes) words (automaton_of (table_with alphabet 0 accepting targets))
    table-renumbers =
        let long = accepting-long in
        record {
          states = long;
          letters = letters-same;
          start = refl;
          steps = λ k a kl al.
              let m = length dfa.alphabet.letters in
              let kt : k < length accepting = omega arith in
              let e = letters-same in
              let at : a < length alphabet.letters = let am : a < length dfa.alphabet.letters = al in omega arith in
              let here : (nat_lt k (length accepting) && nat_lt a (length alphabet.letters)) ≡ true = grind (arith, nat_tests) in
              let is : step_of (table_with alphabet 0 accepting targets) k a ≡ slice_index targets (k * m + a) =
              ap (λ known. cond known (target_at (table_with alphabet 0 accepting targets) k a) k) here
              ∙ ap (λ n. slice_index targets (k * n + a)) letters-same in
              let cell = mul-add-lt k m a (length words) kl al in
              let t = each.each (k * m + a) (omega arith) in
              let t' = rw (div-mul-add k m a al, mod-mul-add k m a al) at t in
              subst (λ x. IsTarget (merged_of dfa classes) words k a x) (sym is) t';
          accepts = λ k kl.
              let ks : k < length states = let l = states-long (merged_of dfa classes) words states f in omega arith in
              ap (λ xs. Rattle.std.specs.Prelude.slice_index_or xs k false) answers ∙ get_or-map (accepts_at dfa) states k 0 false ks
              ∙ ap (accepts_at dfa) (state-is (merged_of dfa classes) words states f k kl);
        }
