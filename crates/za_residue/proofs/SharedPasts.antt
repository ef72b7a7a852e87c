-- What of a view others know, as the pasts of primary entries.
use Rattle.std.proofs.Common.{◌≡◌, ℕ, ◌<◌, ◌≤◌, true, inl, inr, List, [], ◌∷◌, Some, sym, subst, ◌∙◌, arith}
use Rattle.std.proofs.lemmas.Bool.{cases_lt, cases_eq, cases_Bool}
use Rattle.za_alpha.specs.Words.{has}
use Rattle.za_order.specs.Views.{in_view, in_past, Chain, Here}
use Rattle.za_order.specs.Entries.{primary, last_in_past, secondary}
use Rattle.za_order.proofs.Options.{then-some, some-then}
use Rattle.za_order.proofs.Sets.{has-single, single-has, has-own}
use Rattle.za_order.proofs.Chains.{chain-le, chain-trans, chain-same}
use Rattle.za_order.proofs.Views.{view-sound, view-complete, view-down, view-below, view-process, view-own, past-sound, past-complete}
use Rattle.za_order.proofs.Entries.{primary-sound, primary-complete, primary-some, last_in_past-sound, last_in_past-complete}
use Rattle.za_order.proofs.Maximal.{IsMaximal, maximal-last, maximal-primary, maximal-above}
use Rattle.za_order.proofs.Processes.{primary-secondary}
use Rattle.za_order.proofs.LatestNews.{IsNewest}

module _ (who : ℕ → List ℕ) (n : ℕ) where
  -- the view of one is in that of all
  pub view-one : (ps : List ℕ) (y i : ℕ) → has ps y ≡ true → in_view who n (y ∷ []) i ≡ true → in_view who n ps i ≡ true
  view-one ps y i h v =
      let r = view-sound who n (y ∷ []) i v in
      view-complete who n ps i r.event r.process r.below r.takes (subst (λ z. has ps z ≡ true) (has-single y r.process r.asked) h) r.chain

  -- and what is in that of all is in one
  pub view-of : (ps : List ℕ) (i : ℕ) → in_view who n ps i ≡ true → (y : ℕ) × (has ps y ≡ true) × (in_view who n (y ∷ []) i ≡ true)
  view-of ps i v =
      let r = view-sound who n ps i v in
      (r.process, r.asked, view-complete who n (r.process ∷ []) i r.event r.process r.below r.takes (has-own r.process) r.chain)

  -- the primary entry of x for s is a primary entry of one of ps
  pub record IsEarlier (ps : List ℕ) (x s : ℕ) : Type 0 where
    pub event : ℕ
    pub other : ℕ
    pub process : ℕ
    pub of_one : primary who n x s ≡ Some event
    pub among : has ps other ≡ true
    pub of_other : primary who n other process ≡ Some event

  -- what x and one of ps know is in the past of such an event
  pub earlier-complete : (ps : List ℕ) (x i : ℕ) → in_view who n (x ∷ []) i ≡ true → in_view who n ps i ≡ true → (s : ℕ) × (e : IsEarlier ps x s)
      × Chain who i e.event
  earlier-complete ps x i vx vp =
      let y = view-of ps i vp in
      let r = view-process who n (x ∷ []) i vx in
      let t = maximal-above who (λ i. in_view who n (x ∷ []) i) (λ i. in_view who n (y.0 ∷ []) i) n i r.0 (λ i. view-below who n (y.0 ∷ []) i) r.1 vx y.2 in
      let a = maximal-primary who n x y.0 t.0 t.2 in
      let b = maximal-primary who n y.0 x t.0 (record { one = t.2.two; two = t.2.one; alone = λ g u v c. t.2.alone g v u c }) in (
        b.0,
        record {
          event = t.0;
          other = y.0;
          process = a.0;
          of_one = primary-complete who n x b.0 t.0 b.1;
          among = y.1;
          of_other =
              primary-complete who n y.0 a.0 t.0 a.1;
        },
        t.1,
      )

  -- and that past is in their views
  pub earlier-sound : (ps : List ℕ) (x s i : ℕ) (e : IsEarlier ps x s) → Chain who i e.event → in_view who n ps i ≡ true
  earlier-sound ps x s i e c =
      view-one ps e.other i e.among (view-down who n (e.other ∷ []) i e.event (primary-sound who n e.other e.process e.event e.of_other).known c)

  -- the primary entry of x for s is a secondary entry of b for r
  pub record IsUnder (b x r s : ℕ) : Type 0 where
    pub event : ℕ
    pub process : ℕ
    pub of_one : primary who n x s ≡ Some event
    pub of_best : secondary who n b r process ≡ Some event

  -- its past is in the past of the primary entry of b for r
  pub under-sound : (b x r s g i : ℕ) → primary who n b r ≡ Some g → (u : IsUnder b x r s) → Chain who i u.event → Chain who i g
  under-sound b x r s g i h u c =
      let k = then-some (λ e. last_in_past who e u.process) (primary who n b r) u.event u.of_best in
      let z : Some k.0 ≡ Some g = sym k.1 ∙ h in
      let same : k.0 ≡ g = cc in
      subst (λ v. Chain who i v) same (chain-trans who c (last_in_past-sound who k.0 u.process u.event k.2).chain)

  -- a maximal event of a view and of another set is the last event there of one of its processes
  maximal-of-view : (p : ℕ) (B : ℕ → Type 0) → ((i j : ℕ) → B j → Chain who i j → B i) → ((i : ℕ) → B i → i < n) →
      (f : ℕ) → IsMaximal who (λ i. in_view who n (p ∷ []) i ≡ true) B f → (s : ℕ) × (has (who f) s ≡ true) × ((h : ℕ) → B h → has (who h) s ≡ true → h ≤ f)
  maximal-of-view p B down below f top =
      let r = view-sound who n (p ∷ []) f top.one in
      let tp : has (who r.event) p ≡ true = single-has p r.process (who r.event) r.asked r.takes in
      elim (cases_eq f r.event) [
        | inl e ↦
            let fp : has (who f) p ≡ true = subst (λ v. has (who v) p ≡ true) (sym e) tp in (
              p,
              fp,
              λ i v t. elim (cases_lt f i) [
                | inl lt ↦ let k = top.alone i (view-own who n p i (below i v) t) v (chain-same who p f i (omega arith) fp t) in omega arith
                | inr le ↦ le
              ],
            )
        | inr ne ↦
            maximal-last who (λ i. in_view who n (p ∷ []) i ≡ true) B (λ i j. view-down who n (p ∷ []) i j) down f r.event top
            (view-own who n p r.event r.below tp) r.chain ne
      ]

  -- what x knows of that past is in the past of such an event, where b has the latest news of r
  pub under-complete : (xs : List ℕ) (b x r g i : ℕ) → IsNewest who n xs r b → has xs x ≡ true → primary who n b r ≡ Some g → in_view who n (x ∷ []) i ≡ true →
      Chain who i g →
      (s : ℕ) × (u : IsUnder b x r s) × Chain who i u.event
  under-complete xs b x r g i k hx h v c =
      let lg = primary-sound who n b r g h in
      elim (cases_Bool (in_view who n (x ∷ []) g)) [
        | inl known ↦
            let m = primary-some who n x r g known lg.takes in
            let lm = primary-sound who n x r m.0 m.1 in
            let up = lm.last g known lg.takes in
            let down = lg.last m.0 (k.knows x m.0 hx m.1) lm.takes in
            let same : m.0 ≡ g = omega arith in
            (r, record { event = g; process = r; of_one = subst (λ z. primary who n x r ≡ Some z) same m.1; of_best = primary-secondary who n b r g h }, c)
        | inr unknown ↦
            let gb = view-below who n (b ∷ []) g lg.known in
            let q = view-process who n (x ∷ []) i v in
            let below : (j : ℕ) → in_past who g j ≡ true → j < n = λ j u. let l = chain-le who (past-sound who g j u) in omega arith in
            let down : (j l : ℕ) → in_past who g l ≡ true → Chain who j l → in_past who g j
            ≡ true = λ j l u d. past-complete who g j r lg.takes (chain-trans who d (past-sound who g l u)) in
            let t = maximal-above who (λ j. in_view who n (x ∷ []) j) (λ j. in_past who g j) n i q.0 below q.1 v (past-complete who g i r lg.takes c) in
            let top = t.2 in
            let cf = past-sound who g t.0 top.two in
            let a = maximal-last who (λ j. in_past who g j ≡ true) (λ j. in_view who n (x ∷ []) j ≡ true) down (λ j l. view-down who n (x ∷ []) j l) t.0 g
            (record { one = top.two; two = top.one; alone = λ z y w d. top.alone z w y d }) (past-complete who g g r lg.takes Here) cf
            (λ same. let z : in_view who n (x ∷ []) g ≡ true = subst (λ y. in_view who n (x ∷ []) y ≡ true) same top.one in cc) in
            let d = maximal-of-view x (λ j. in_past who g j ≡ true) down below t.0 top in (
              a.0,
              record {
                event = t.0;
                process = d.0;
                of_one = primary-complete who n x a.0 t.0 (record { known = top.one; takes = a.1; last = a.2 });
                of_best = some-then (λ e. last_in_past who e d.0) (primary who n b r) g t.0 h
                    (last_in_past-complete who g d.0 t.0 (record { chain = cf; takes = d.1; last = λ j y z. d.2 j (past-complete who g j r lg.takes y) z }));
              },
              t.1,
            )
      ]
