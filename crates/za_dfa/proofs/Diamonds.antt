-- In an automaton with every diamond, equivalent words lead to the same state.
use Rattle.std.proofs.Common.{◌≡◌, ℕ, ◌<◌, List, [], ◌∷◌, ◌++◌, refl, sym, ap, ◌∙◌}
use Rattle.std.proofs.lemmas.List.Elements.{All-head, All-tail, All-same}
use Rattle.za_alpha.specs.Words.{IsWord, IsSwap, Swaps, Done, Then}
use Rattle.za_alpha.proofs.Swaps.{swap-all, all-left, all-right, equivalence_is_swapping}
use Rattle.za_dfa.specs.Automata.{Automaton, IsTotal, walk, HasDiamonds}
use Rattle.za_dfa.specs.Laws.{DiamondsKeepTheState, DiamondsCloseTheLanguage}

-- where a joined word leads
pub walk-append : {X : Type 0} (step : X → ℕ → X) (x : X) (u v : List ℕ) → walk step x (u ++ v) ≡ walk step (walk step x u) v
walk-append step x [] v = refl
walk-append step x (a ∷ u) v = walk-append step (step x a) u v

-- words lead from states to states
pub walk-below : (d : Automaton) → IsTotal d → (q : ℕ) (w : List ℕ) → q < d.states → IsWord d.letters w → walk d.step q w < d.states
walk-below d t q [] l h = l
walk-below d t q (a ∷ w) l h = walk-below d t (d.step q a) w (t.steps q a l (All-head (λ c. c < d.letters) a w h)) (All-tail (λ c. c < d.letters) a w h)

module _ (loc : ℕ → List ℕ) (d : Automaton) (t : IsTotal d) (diamonds : HasDiamonds loc d) where
  -- a swap of neighbouring independent letters leads to the same state
  swap-state : (q : ℕ) (u v : List ℕ) → q < d.states → IsSwap loc u v → IsWord d.letters u → walk d.step q u ≡ walk d.step q v
  swap-state q u v l s h =
      let k = All-same (λ c. c < d.letters) (s.before ++ s.left ∷ s.right ∷ s.after) u (sym s.from) h in
      let two = all-right (λ c. c < d.letters) s.before (s.left ∷ s.right ∷ s.after) k in
      let left = All-head (λ c. c < d.letters) s.left (s.right ∷ s.after) two in
      let right = All-head (λ c. c < d.letters) s.right s.after (All-tail (λ c. c < d.letters) s.left (s.right ∷ s.after) two) in
      let r = walk d.step q s.before in
      let below = walk-below d t q s.before l (all-left (λ c. c < d.letters) s.before (s.left ∷ s.right ∷ s.after) k) in
      ap (walk d.step q) s.from ∙ walk-append d.step q s.before (s.left ∷ s.right ∷ s.after)
      ∙ ap (λ x. walk d.step x s.after) (diamonds r s.left s.right below left right s.apart)
      ∙ sym (walk-append d.step q s.before (s.right ∷ s.left ∷ s.after)) ∙ sym (ap (walk d.step q) s.to)

  swaps-state : (q : ℕ) → q < d.states → {u v : List ℕ} → Swaps loc u v → IsWord d.letters u → walk d.step q u ≡ walk d.step q v
  swaps-state q l Done h = refl
  swaps-state q l (Then {u = u} {v = v} {w = w} s rest) h = swap-state q u v l s h ∙ swaps-state q l rest (swap-all loc (λ c. c < d.letters) u v s h)

pub diamonds_keep_the_state : DiamondsKeepTheState
diamonds_keep_the_state loc processes d q u v al t diamonds l hu hv e =
    swaps-state loc d t diamonds q l ((equivalence_is_swapping loc d.letters processes u v al hu hv).0 e) hu

pub diamonds_close_the_language : DiamondsCloseTheLanguage
diamonds_close_the_language loc processes d al t diamonds u v hu hv e =
    ap d.accepts (diamonds_keep_the_state loc processes d d.start u v al t diamonds t.starts hu hv e)

pub ruleset diamond_laws = (diamonds_keep_the_state, diamonds_close_the_language)
