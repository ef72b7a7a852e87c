-- Steps of the exploration as it is computed.
use Rattle.std.proofs.Common.{◌≡◌, ◌≢◌, ℕ, suc, ◌+◌, ◌<◌, ◌≤◌, List, [], ◌∷◌, ◌++◌, length, map, slice_index, sym, ap, subst, ◌∙◌, arith, length-append}
use Rattle.std.proofs.lemmas.List.{get_or-map, length-map, map-append}
use Rattle.za_dfa.specs.Automata.{Automaton, IsTotal}
use Rattle.za_dfa.specs.Tables.{CompleteDfa, automaton_of}
use Rattle.za_dfa.proofs.Diamonds.{walk-append}
use Rattle.za_dfa.proofs.TableLemmas.{total_of_complete}
use Rattle.za_min.specs.Minimal.{word_at}
use Rattle.za_min.specs.Private.Rounds.{AreClassesOf}
use Rattle.za_min.specs.Private.Exploring.{merged_of, state_of, AreStatesOf, AreFound, AreFoundStates}
use Rattle.za_min.proofs.RoundLemmas.{length-rounds}
use Rattle.za_min.proofs.Merge.{merged-total, merged-own}
use Rattle.za_min.proofs.Found.{stays, grows, next-row, found-start, found-few}

module _ (dfa : CompleteDfa) (classes : List ℕ) (of : AreClassesOf dfa classes) where
  pub classes-total : IsTotal (automaton_of dfa)
  classes-total = total_of_complete dfa of.whole

  -- there is a class for each state
  pub classes-length : length classes ≡ dfa.states
  classes-length = ap length of.stable.is ∙ length-rounds (automaton_of dfa) of.stable.round

  -- the state at a place is where its word leads
  pub state-at : (words : List (List ℕ)) (states : List ℕ) → AreStatesOf (merged_of dfa classes) words states → (k : ℕ) → k < length words →
      (k < length states) × (slice_index states k ≡ state_of (merged_of dfa classes) (word_at words k)) × (slice_index states k < dfa.states)
  state-at words states s k l =
      let long : length states ≡ length words = ap length s.states_each ∙ length-map words (state_of (merged_of dfa classes)) in
      let is : slice_index states k ≡ state_of (merged_of dfa classes) (word_at words k) = ap (λ xs. slice_index xs k) s.states_each
      ∙ get_or-map (state_of (merged_of dfa classes)) words k [] 0 l in
      let below : state_of (merged_of dfa classes) (word_at words k) < dfa.states =
      (merged-own (automaton_of dfa) classes-total classes of.stable (word_at words k) (s.word k l)).0 in
      (omega arith, is, omega arith)

  pub states-of-found : (i a : ℕ) (words : List (List ℕ)) (states : List ℕ) → AreFoundStates (merged_of dfa classes) i a words states →
      AreStatesOf (merged_of dfa classes) words states
  states-of-found i a words states f = record { word = f.found.word; states_each = f.states_each }

  pub words-few : (i a : ℕ) (words : List (List ℕ)) (states : List ℕ) → AreFoundStates (merged_of dfa classes) i a words states → length words ≤ dfa.states
  words-few i a words states f = found-few (merged_of dfa classes) (merged-total (automaton_of dfa) classes-total classes of.stable) i a words f.found

-- where a letter leads to a state that is found already
pub visited-there : (d : Automaton) (i a : ℕ) (words : List (List ℕ)) (states : List ℕ) (next k : ℕ) → AreFoundStates d i a words states → i < length words →
    next ≡ d.step (state_of d (word_at words i)) a →
    k < length states → slice_index states k ≡ next → AreFoundStates d i (a + 1) words states
visited-there d i a words states next k f il e kl here =
    let long : length states ≡ length words = ap length f.states_each ∙ length-map words (state_of d) in
    let kw : k < length words = omega arith in
    let is : slice_index states k ≡ state_of d (word_at words k) = ap (λ xs. slice_index xs k) f.states_each ∙ get_or-map (state_of d) words k [] 0 kw in
    let more : suc a ≡ a + 1 = omega arith in
    record { found = subst (λ n. AreFound d i n words) more (stays d i a words f.found il (k, kw, sym is ∙ here ∙ e)); states_each = f.states_each }

-- where it leads to a new state, which is added
pub visited-new : (d : Automaton) (i a : ℕ) (words words' : List (List ℕ)) (states states' : List ℕ) (next : ℕ) → AreFoundStates d i a words states →
    i < length words → a < d.letters → next ≡ d.step (state_of d (word_at words i)) a →
    ((k : ℕ) → k < length states → slice_index states k ≢ next) → words' ≡ words ++ (word_at words i ++ a ∷ []) ∷ [] → states' ≡ states
    ++ next ∷ [] → AreFoundStates d i (a + 1) words' states'
visited-new d i a words words' states states' next f il al e nowhere we se =
    let long : length states ≡ length words = ap length f.states_each ∙ length-map words (state_of d) in
    let new = word_at words i ++ a ∷ [] in
    let there : state_of d new ≡ next = walk-append d.step d.start (word_at words i) (a ∷ []) ∙ sym e in
    let more : suc a ≡ a + 1 = omega arith in
    let grown = grows d i a words f.found il al (λ k kl same.
    let is : slice_index states k ≡ state_of d (word_at words k) = ap (λ xs. slice_index xs k) f.states_each ∙ get_or-map (state_of d) words k [] 0 kl in
    nowhere k (omega arith) (is ∙ same ∙ sym e)) in
    record {
      found = subst (λ n. AreFound d i n words') more (subst (λ ws. AreFound d i (suc a) ws) (sym we) grown);
      states_each = se ∙ ap (λ xs. xs ++ next ∷ []) f.states_each ∙ ap (λ q. map (state_of d) words ++ q ∷ []) (sym there)
          ∙ sym (map-append (state_of d) words (new ∷ [])) ∙ ap (map (state_of d)) (sym we);
    }

pub longer-place : {A : Type 0} (xs ys : List A) (y : A) (i : ℕ) → i < length xs → ys ≡ xs ++ y ∷ [] → i < length ys
longer-place xs ys y i l e = let n = ap length e in let m = length-append xs (y ∷ []) in omega arith

-- where all letters of a place are done
pub visited-row : (d : Automaton) (i : ℕ) (words : List (List ℕ)) (states : List ℕ) → AreFoundStates d i d.letters words states →
    AreFoundStates d (i + 1) 0 words states
visited-row d i words states f = let more : suc i ≡ i + 1 = omega arith in
    record { found = subst (λ n. AreFound d n 0 words) more (next-row d i words f.found); states_each = f.states_each }

pub visited-start : (d : Automaton) (words : List (List ℕ)) (states : List ℕ) (q : ℕ) → words ≡ [] ∷ [] → states ≡ q ∷ [] → q ≡ d.start →
    AreFoundStates d 0 0 words states
visited-start d words states q we se e =
    record { found = subst (λ ws. AreFound d 0 0 ws) (sym we) (found-start d); states_each = se ∙ ap (λ x. x ∷ []) e ∙ ap (map (state_of d)) (sym we) }
