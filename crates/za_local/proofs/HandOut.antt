-- Handing out a new local state, process by process.
use Rattle.std.proofs.Common.{◌≡◌, ◌≢◌, ℕ, ◌+◌, ◌<◌, ◌≤◌, true, false, List, [], ◌∷◌, ◌++◌, length, get_or, set, sym, ap, subst, ◌∙◌, arith, inl, inr}
use Rattle.std.proofs.lemmas.Bool.{cases_eq}
use Rattle.std.proofs.lemmas.List.{get_or-set_same, get_or-set_other, length-set}
use Rattle.za_alpha.specs.Words.{has}
use Rattle.za_alpha.specs.Alphabet.{IsDistributed, loc_of}
use Rattle.za_dfa.specs.Tables.{CompleteDfa, automaton_of}
use Rattle.za_order.proofs.NextLetter.{word-next}
use Rattle.za_local.specs.Locals.{LocalState, local_after, AreAllLocalsAfter, HasShape}
use Rattle.za_local.specs.Private.Shared.{IsFresh, AreOthersAfter}
use Rattle.za_local.proofs.LocalLaws.{others_keep_locals}
use Rattle.za_local.proofs.Given.{locals-by-each}
use Rattle.za_local.proofs.Shapes.{shape-after}

-- of the processes, those below k but for the participant p have their local states after the event, and those of the
-- others that take no part theirs before it
pub record AreGiven (d : CompleteDfa) (w : List ℕ) (a p : ℕ) (locals : List LocalState) (k : ℕ) : Type 0 where
  pub many : length locals ≡ d.alphabet.processes
  pub after : (q : ℕ) (e : LocalState) → q < k → q ≢ p → q < d.alphabet.processes → get_or locals q e ≡ local_after d (w ++ a ∷ []) q
  pub before : (q : ℕ) (e : LocalState) → k ≤ q → q < d.alphabet.processes → has (loc_of d.alphabet a) q ≡ false → get_or locals q e ≡ local_after d w q
  pub shapes : (q : ℕ) (e : LocalState) → q < d.alphabet.processes → HasShape d.alphabet.processes d.states (get_or locals q e)

-- for every word with these local states
abbrev pub AreHandedOut : CompleteDfa → ℕ → LocalState → List LocalState → ℕ → List LocalState → ℕ → Type 0
AreHandedOut d a fresh old p locals k = (w : List ℕ) → AreOthersAfter d w a old → IsFresh d w a fresh → AreGiven d w a p locals k

module _ (d : CompleteDfa) (a : ℕ) (fresh : LocalState) (old : List LocalState) (p : ℕ) where
  -- who takes no part keeps its own
  kept : IsDistributed d.alphabet → a < length d.alphabet.letters → (w : List ℕ) → AreOthersAfter d w a old → (k : ℕ) → has (loc_of d.alphabet a) k ≡ false →
      local_after d w k ≡ local_after d (w ++ a ∷ []) k
  kept whole letter w was k out = sym (others_keep_locals (loc_of d.alphabet) d.alphabet.processes (automaton_of d) w a k whole.located was.word letter out)

  -- those below the least participant take no part
  pub given-first : IsDistributed d.alphabet → a < length d.alphabet.letters → ((q : ℕ) → q < p → has (loc_of d.alphabet a) q ≡ false) →
      AreHandedOut d a fresh old p old (p + 1)
  given-first whole letter below = λ w was f. record {
    many = was.many;
    after = λ q e l other m. was.others q e m (below q (omega arith)) ∙ kept whole letter w was q (below q (omega arith));
    before = λ q e l m out. was.others q e m out;
    shapes = was.shapes;
  }

  -- a participant gets the fresh one
  pub given-part : (locals : List LocalState) (k : ℕ) → k < d.alphabet.processes → has (loc_of d.alphabet a) k ≡ true → AreHandedOut d a fresh old p locals k →
      AreHandedOut d a fresh old p (set locals k fresh) (k + 1)
  given-part locals k l part h = λ w was f.
      let g = h w was f in
      let many = g.many in
      record {
        many = length-set locals k fresh ∙ g.many;
        after = λ q e low other m. elim (cases_eq q k) [
          | inl same ↦ ap (λ i. get_or (set locals k fresh) i e) same ∙ get_or-set_same locals k fresh e (omega arith) ∙ f k part
              ∙ ap (local_after d (w ++ a ∷ [])) (sym same)
          | inr apart ↦ get_or-set_other locals k q fresh e apart ∙ g.after q e (omega arith) other m
        ];
        before = λ q e high m out. get_or-set_other locals k q fresh e (λ same. let s : q ≡ k = same in absurd (omega arith))
            ∙ g.before q e (omega arith) m out;
        shapes = λ q e m. elim (cases_eq q k) [
          | inl same ↦
              subst (HasShape d.alphabet.processes d.states)
              (sym (ap (λ i. get_or (set locals k fresh) i e) same ∙ get_or-set_same locals k fresh e (omega arith) ∙ f k part))
              (shape-after d (w ++ a ∷ []) k)
          | inr apart ↦ subst (HasShape d.alphabet.processes d.states) (sym (get_or-set_other locals k q fresh e apart)) (g.shapes q e m)
        ];
      }

  pub given-other : IsDistributed d.alphabet → a < length d.alphabet.letters → (locals : List LocalState) (k : ℕ) → k < d.alphabet.processes →
      has (loc_of d.alphabet a) k ≡ false →
      AreHandedOut d a fresh old p locals k → AreHandedOut d a fresh old p locals (k + 1)
  given-other whole letter locals k l out h = λ w was f.
      let g = h w was f in
      record {
        many = g.many;
        after = λ q e low other m. elim (cases_eq q k) [
          | inl same ↦ ap (λ i. get_or locals i e) same ∙ g.before k e (omega arith) l out ∙ kept whole letter w was k out
              ∙ ap (local_after d (w ++ a ∷ [])) (sym same)
          | inr apart ↦ g.after q e (omega arith) other m
        ];
        before = λ q e high m out. g.before q e (omega arith) m out;
        shapes = g.shapes;
      }

  -- at the end the least one gets it too
  pub given-all : a < length d.alphabet.letters → (locals : List LocalState) (k : ℕ) → d.alphabet.processes ≤ k → p < d.alphabet.processes →
      has (loc_of d.alphabet a) p ≡ true →
      AreHandedOut d a fresh old p locals k → (w : List ℕ) → AreOthersAfter d w a old → IsFresh d w a fresh →
      AreAllLocalsAfter d (w ++ a ∷ []) (set locals p fresh)
  given-all letter locals k end l part h w was f =
      let g = h w was f in
      let many = g.many in
      locals-by-each d (w ++ a ∷ []) (set locals p fresh) (word-next (length d.alphabet.letters) w a was.word letter) (length-set locals p fresh ∙ g.many) fresh
      (λ q m. elim (cases_eq q p) [
        | inl same ↦ ap (λ i. get_or (set locals p fresh) i fresh) same ∙ get_or-set_same locals p fresh fresh (omega arith) ∙ f p part
            ∙ ap (local_after d (w ++ a ∷ [])) (sym same)
        | inr apart ↦ get_or-set_other locals p q fresh fresh apart ∙ g.after q fresh (omega arith) apart m
      ])
