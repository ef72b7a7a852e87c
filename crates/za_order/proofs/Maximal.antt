-- Maximal events of two sets that are closed under chains.
use Rattle.std.proofs.Common.{◌≡◌, ◌≢◌, ℕ, suc, ◌<◌, ◌≤◌, Bool, true, ◌&&◌, inl, inr, List, [], ◌∷◌, sym, subst, arith}
use Rattle.std.proofs.lemmas.Bool.{cases_lt, cases_eq, and_parts, and_from, cases_Bool}
use Rattle.za_alpha.specs.Words.{has}
use Rattle.za_order.specs.Views.{in_view, in_past, Chain, Here}
use Rattle.za_order.proofs.Sets.{single-has}
use Rattle.za_order.proofs.Chains.{chain-le, chain-trans, chain-same, chain-first}
use Rattle.za_order.proofs.Views.{view-sound, view-down, view-below, view-own, past-sound, past-complete, past-complete'}
use Rattle.za_order.proofs.Greatest.{greatest-sound, greatest-some}
use Rattle.za_order.proofs.Entries.{IsLatest, IsSecondStep, IsThirdStep}

-- f is in both sets, and no chain leads from it to another event of both
pub record IsMaximal (who : ℕ → List ℕ) (A B : ℕ → Type 0) (f : ℕ) : Type 0 where
  pub one : A f
  pub two : B f
  pub alone : (g : ℕ) → A g → B g → Chain who f g → g ≡ f

module _ (who : ℕ → List ℕ) where
  -- a maximal event of both sets that isn't maximal in A is the last event in B of one of its processes
  pub maximal-last : (A B : ℕ → Type 0) → ((i j : ℕ) → A j → Chain who i j → A i) → ((i j : ℕ) → B j → Chain who i j → B i) →
      (f g : ℕ) → IsMaximal who A B f → A g → Chain who f g → f ≢ g →
      (s : ℕ) × (has (who f) s ≡ true) × ((h : ℕ) → B h → has (who h) s ≡ true → h ≤ f)
  maximal-last A B downA downB f g top ag c ne =
      elim (chain-first who c) [
        | inl e ↦ absurd (ne e)
        | inr r ↦ (
          r.1,
          r.3,
          λ h bh hs.
              elim (cases_lt f h) [
                | inl lt ↦ elim (cases_lt h r.0) [
                  | inl below ↦
                      let ah = downA h g ag (chain-trans who (chain-same who r.1 h r.0 (omega arith) hs r.4) r.5) in
                      let e = top.alone h ah bh (chain-same who r.1 f h (omega arith) r.3 hs) in
                      omega arith
                  | inr above ↦
                      let aj = downA r.0 g ag r.5 in
                      let bj = downB r.0 h bh (chain-same who r.1 r.0 h above r.4 hs) in
                      let e = top.alone r.0 aj bj (chain-same who r.1 f r.0 (let l = r.2 in omega arith) r.3 r.4) in
                      let l = r.2 in
                      absurd (omega arith)
                ]
                | inr le ↦ le
              ],
        )
      ]

  -- a maximal event of the views of p and q is a primary entry of q
  pub maximal-primary : (n p q f : ℕ) → IsMaximal who (λ i. in_view who n (p ∷ []) i ≡ true) (λ i. in_view who n (q ∷ []) i ≡ true) f →
      (s : ℕ) × IsLatest who n q s f
  maximal-primary n p q f top =
      let r = view-sound who n (p ∷ []) f top.one in
      let tp : has (who r.event) p ≡ true = single-has p r.process (who r.event) r.asked r.takes in
      elim (cases_eq f r.event) [
        | inl e ↦ (
          p,
          record {
            known = top.two;
            takes = subst (λ v. has (who v) p ≡ true) (sym e) tp;
            last = λ i v t. elim (cases_lt f i) [
              | inl lt ↦
                  let k = top.alone i (view-own who n p i (view-below who n (q ∷ []) i v) t) v
                  (chain-same who p f i (omega arith) (subst (λ v. has (who v) p ≡ true) (sym e) tp) t) in
                  omega arith
              | inr le ↦ le
            ];
          },
        )
        | inr ne ↦
            let b = maximal-last (λ i. in_view who n (p ∷ []) i ≡ true) (λ i. in_view who n (q ∷ []) i ≡ true)
            (λ i j. view-down who n (p ∷ []) i j) (λ i j. view-down who n (q ∷ []) i j) f r.event top
            (view-own who n p r.event r.below tp) r.chain ne in
            (b.0, record { known = top.two; takes = b.1; last = b.2 })
      ]

  -- above an event of both sets there is a maximal one
  pub maximal-above : (a b : ℕ → Bool) (n e r : ℕ) → ((i : ℕ) → b i ≡ true → i < n) → has (who e) r ≡ true → a e ≡ true → b e ≡ true →
      (f : ℕ) × Chain who e f × IsMaximal who (λ i. a i ≡ true) (λ i. b i ≡ true) f
  maximal-above a b n e r bound er ae be =
      let test : ℕ → Bool = λ i. (a i && b i) && in_past who i e in
      let pass : (i : ℕ) → a i ≡ true → b i ≡ true → Chain who e i → test i ≡ true =
      λ i ai bi c. and_from (a i && b i) (in_past who i e) (and_from (a i) (b i) ai bi) (past-complete' who i e r er c) in
      let f = greatest-some test n e (bound e be) (pass e ae be Here) in
      let g = greatest-sound test n f.0 f.1 in
      let parts = and_parts (a f.0 && b f.0) (in_past who f.0 e) g.passes in
      let sides = and_parts (a f.0) (b f.0) parts.0 in
      let c = past-sound who f.0 e parts.1 in (
        f.0,
        c,
        record {
          one = sides.0;
          two = sides.1;
          alone = λ h ah bh d.
              let l = chain-le who d in
              let m = g.most h (bound h bh) (pass h ah bh (chain-trans who c d)) in
              omega arith;
        },
      )

  -- a primary entry of x that y knows is a secondary entry of y
  pub known-secondary : (n x y r e : ℕ) → IsLatest who n x r e → in_view who n (y ∷ []) e ≡ true → (q : ℕ) × IsSecondStep who n y q r e
  known-secondary n x y r e l v =
      let t = maximal-above (λ i. in_view who n (x ∷ []) i) (λ i. in_view who n (y ∷ []) i) n e r (λ i. view-below who n (y ∷ []) i) l.takes l.known v in
      let s = maximal-primary n x y t.0 t.2 in (
        s.0,
        record {
          event = t.0;
          first = s.1;
          past = record { chain = t.1; takes = l.takes; last = λ i c h. l.last i (view-down who n (x ∷ []) i t.0 t.2.one c) h };
        },
      )

  -- y knows its secondary entries
  pub secondary-known : (n y q r e : ℕ) → IsSecondStep who n y q r e → in_view who n (y ∷ []) e ≡ true
  secondary-known n y q r e s = view-down who n (y ∷ []) e s.event s.first.known s.past.chain

  -- a secondary entry of u that p knows is a tertiary entry of p: an inner event in the view of p, or not
  pub secondary-tertiary : (n u q r e p : ℕ) → IsSecondStep who n u q r e → in_view who n (p ∷ []) e ≡ true → (a : ℕ) × (b : ℕ) × IsThirdStep who n p a b r e
  secondary-tertiary n u q r e p s v =
      let g : ℕ = s.event in
      elim (cases_Bool (in_view who n (p ∷ []) g)) [
        | inl known ↦
            let k = known-secondary n u p q g s.first known in
            (k.0, q, record { event = g; second = k.1; past = s.past })
        | inr unknown ↦
            let t = maximal-above (λ i. in_past who g i) (λ i. in_view who n (p ∷ []) i) n e r (λ i. view-below who n (p ∷ []) i) s.past.takes
            (past-complete' who g e r s.past.takes s.past.chain) v in
            let c = past-sound who g t.0 t.2.one in
            let b = maximal-last (λ i. in_past who g i ≡ true) (λ i. in_view who n (p ∷ []) i ≡ true)
            (λ i j. view-down who (suc g) (who g) i j) (λ i j. view-down who n (p ∷ []) i j) t.0 g t.2
            (past-complete who g g q s.first.takes Here) c
            (λ same. let known : in_view who n (p ∷ []) g ≡ true = subst (λ x. in_view who n (p ∷ []) x ≡ true) same t.2.two in cc) in (
              b.0,
              b.0,
              record {
                event = t.0;
                second = record {
                  event = t.0;
                  first = record { known = t.2.two; takes = b.1; last = b.2 };
                  past = record { chain = Here; takes = b.1; last = λ i d h. chain-le who d };
                };
                past = record { chain = t.1; takes = s.past.takes; last = λ i d h. s.past.last i (chain-trans who d c) h };
              },
            )
      ]
