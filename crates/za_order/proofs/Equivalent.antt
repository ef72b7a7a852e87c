-- Equivalent words have the same views, entries, labels and numbers, up to matches.
use Rattle.std.proofs.Common.{◌≡◌, ℕ, zero, suc, ◌<◌, ◌≤◌, true, inl, inr, List, [], ◌∷◌, length, slice_index, Option, Some, None, refl, sym, ap, subst, ◌∙◌}
use Rattle.std.proofs.Common.{arith}
use Rattle.std.proofs.lemmas.Bool.{cases_eq, cases_order}
use Rattle.std.proofs.Math.Path.{fun_ext}
use Rattle.za_alpha.specs.Words.{has, AreEquivalent}
use Rattle.za_alpha.specs.Search.{least}
use Rattle.za_order.specs.Views.{participants, in_view}
use Rattle.za_order.specs.Entries.{primary, secondary, tertiary, IsTertiary}
use Rattle.za_order.specs.Words.{IsMatch, AreMatched}
use Rattle.za_order.specs.Labels.{least_participant, label, number_of, number}
use Rattle.za_order.specs.Locals.{Ids, ids}
use Rattle.za_order.specs.Laws.{EventsMatch, ViewsAgree, PrimaryEntriesAgree, SecondaryEntriesAgree, TertiaryEntriesAgree, LabelsAgree, IdsAgree}
use Rattle.za_order.proofs.Sets.{single-has, same-test}
use Rattle.za_order.proofs.Participants.{IsOver, word-over}
use Rattle.za_order.proofs.Chains.{chain-le}
use Rattle.za_order.proofs.Views.{view-below}
use Rattle.za_order.proofs.Entries.{IsLatest, IsLastInPast, IsSecondStep, IsThirdStep, primary-sound, primary-complete, secondary-sound, secondary-complete}
use Rattle.za_order.proofs.Entries.{tertiary-sound, tertiary-complete, tertiary-below}
use Rattle.za_order.proofs.Labels.{least_participant-takes, label-free, label-least}
use Rattle.za_order.proofs.Matches.{IsPair, from-match, to-match, flip, pair-has, pair-found, pair-less, pair-one, pair-chain, pair-view}

module _ (loc : ℕ → List ℕ) where
  -- equivalence goes both ways
  pub flip-equivalent : (u v : List ℕ) → AreEquivalent loc u v → AreEquivalent loc v u
  flip-equivalent u v e p = sym (e p)

  -- the events of p below n in u match those below n' in v
  record SameBelow (u v : List ℕ) (n n' p : ℕ) : Type 0 where
    pub in_u : n ≤ length u
    pub in_v : n' ≤ length v
    pub forth : (x y : ℕ) → IsPair u v x y → has (participants loc u x) p ≡ true → x < n → y < n'
    pub back : (x y : ℕ) → IsPair u v x y → has (participants loc u x) p ≡ true → y < n' → x < n

  -- so does the matching of events below two positions
  flip-below : (u v : List ℕ) (n n' p : ℕ) → SameBelow u v n n' p → SameBelow v u n' n p
  flip-below u v n n' p s = record {
    in_u = s.in_v;
    in_v = s.in_u;
    forth = λ x y m h l. s.back y x (flip v u x y m) (pair-has loc v u x y p m h) l;
    back = λ x y m h l. s.forth y x (flip v u x y m) (pair-has loc v u x y p m h) l;
  }

  -- all events of the words match
  whole : (u v : List ℕ) (p : ℕ) → SameBelow u v (length u) (length v) p
  whole u v p = record { in_u = omega arith; in_v = omega arith; forth = λ x y m h l. m.in_v; back = λ x y m h l. m.in_u }

  -- so p knows of two events that match both or neither
  own-view : (u v : List ℕ) (n n' p i j : ℕ) → AreEquivalent loc u v → SameBelow u v n n' p → IsPair u v i j →
      in_view (participants loc u) n (p ∷ []) i ≡ true → in_view (participants loc v) n' (p ∷ []) j ≡ true
  own-view u v n n' p i j e s m h =
      pair-view loc u v n n' (p ∷ []) i j e s.in_u
      (λ x y q k t a l. s.forth x y k (single-has p q (participants loc u x) a t) l) m h

  -- matches keep which event is not after which, among those of one process
  pair-le : (u v : List ℕ) (i j k l p : ℕ) → AreEquivalent loc u v → IsPair u v i j → IsPair u v k l →
      has (participants loc u i) p ≡ true → has (participants loc u k) p ≡ true → i ≤ k → j ≤ l
  pair-le u v i j k l p e a b hi hk le =
      elim (cases_eq i k) [
        | inl same ↦ let m : IsPair u v i l = subst (λ x. IsPair u v x l) (sym same) b in let o = pair-one loc u v i j l a m in omega arith
        | inr ne ↦ let c = pair-less loc u v i j k l p e a b hi hk (omega arith) in omega arith
      ]

  -- the last events in views match
  pair-latest : (u v : List ℕ) (n n' p q e : ℕ) → AreEquivalent loc u v → SameBelow u v n n' p → IsLatest (participants loc u) n p q e →
      (e' : ℕ) × IsPair u v e e' × IsLatest (participants loc v) n' p q e'
  pair-latest u v n n' p q e eq s l =
      let b = view-below (participants loc u) n (p ∷ []) e l.known in
      let bu = s.in_u in
      let bv = s.in_v in
      let f = pair-found loc u v e q eq (omega arith) l.takes in
      let eq' = flip-equivalent u v eq in (
        f.0,
        f.1,
        record {
          known = own-view u v n n' p e f.0 eq s f.1 l.known;
          takes = pair-has loc u v e f.0 q f.1 l.takes;
          last = λ i h t.
              let c = view-below (participants loc v) n' (p ∷ []) i h in
              let k = pair-found loc v u i q eq' (omega arith) t in
              let t' = pair-has loc v u i k.0 q k.1 t in
              pair-le u v k.0 i e f.0 q eq (flip v u i k.0 k.1) f.1 t' l.takes
              (l.last k.0 (own-view v u n' n p i k.0 eq' (flip-below u v n n' p s) k.1 h) t');
        },
      )

  -- the last events in pasts match
  pair-past : (u v : List ℕ) (g g' r e : ℕ) → AreEquivalent loc u v → IsPair u v g g' → IsLastInPast (participants loc u) g r e →
      (e' : ℕ) × IsPair u v e e' × IsLastInPast (participants loc v) g' r e'
  pair-past u v g g' r e eq m l =
      let b = chain-le (participants loc u) l.chain in
      let bu = m.in_u in
      let bv = m.in_v in
      let f = pair-found loc u v e r eq (omega arith) l.takes in
      let eq' = flip-equivalent u v eq in (
        f.0,
        f.1,
        record {
          chain = pair-chain loc u v f.0 g' eq l.chain f.1 m;
          takes = pair-has loc u v e f.0 r f.1 l.takes;
          last = λ i d t.
              let c = chain-le (participants loc v) d in
              let k = pair-found loc v u i r eq' (omega arith) t in
              let t' = pair-has loc v u i k.0 r k.1 t in
              pair-le u v k.0 i e f.0 r eq (flip v u i k.0 k.1) f.1 t' l.takes
              (l.last k.0 (pair-chain loc v u k.0 g eq' d k.1 (flip u v g g' m)) t');
        },
      )

  -- so secondary entries match
  pair-second : (u v : List ℕ) (n n' p q r e : ℕ) → AreEquivalent loc u v → SameBelow u v n n' p → IsSecondStep (participants loc u) n p q r e →
      (e' : ℕ) × IsPair u v e e' × IsSecondStep (participants loc v) n' p q r e'
  pair-second u v n n' p q r e eq s t =
      let x = pair-latest u v n n' p q t.event eq s t.first in
      let y = pair-past u v t.event x.0 r e eq x.1 t.past in
      (y.0, y.1, record { event = x.0; first = x.2; past = y.2 })

  -- and tertiary ones
  pair-third : (u v : List ℕ) (n n' p q r s e : ℕ) → AreEquivalent loc u v → SameBelow u v n n' p → IsThirdStep (participants loc u) n p q r s e →
      (e' : ℕ) × IsPair u v e e' × IsThirdStep (participants loc v) n' p q r s e'
  pair-third u v n n' p q r s e eq b t =
      let x = pair-second u v n n' p q r t.event eq b t.second in
      let y = pair-past u v t.event x.0 s e eq x.1 t.past in
      (y.0, y.1, record { event = x.0; second = x.2; past = y.2 })

  -- the same of any tertiary entry of p
  pair-tertiary : (u v : List ℕ) (n n' p e : ℕ) → AreEquivalent loc u v → SameBelow u v n n' p → IsTertiary (participants loc u) n p e →
      (e' : ℕ) × IsPair u v e e' × IsTertiary (participants loc v) n' p e'
  pair-tertiary u v n n' p e eq s t =
      let f = pair-third u v n n' p t.0 t.1 t.2 e eq s (tertiary-sound (participants loc u) n p t.0 t.1 t.2 e t.3) in
      (f.0, f.1, (t.0, t.1, t.2, tertiary-complete (participants loc v) n' p t.0 t.1 t.2 f.0 f.2))

  -- the events of x before two events of x that match do match
  before : (u v : List ℕ) (i j x : ℕ) → AreEquivalent loc u v → IsPair u v i j → has (participants loc u i) x ≡ true → SameBelow u v i j x
  before u v i j x eq m h =
      let bu = m.in_u in
      let bv = m.in_v in
      record {
        in_u = omega arith;
        in_v = omega arith;
        forth = λ a b k t l. pair-less loc u v a b i j x eq k m t h l;
        back = λ a b k t l. pair-less loc v u b a j i x (flip-equivalent u v eq) (flip u v a b k) (flip u v i j m) (pair-has loc u v a b x k t)
            (pair-has loc u v i j x m h) l;
      }

  -- by induction on a bound b of the position
  pair-label : (letters processes : ℕ) (u v : List ℕ) → IsOver loc letters processes u → IsOver loc letters processes v → AreEquivalent loc u v →
      (b i j : ℕ) → i < b → IsPair u v i j → label loc processes u i ≡ label loc processes v j
  pair-label letters processes u v ou ov eq zero i j l m = absurd (omega arith)
  pair-label letters processes u v ou ov eq (suc b) i j l m =
      let x : ℕ = least_participant loc processes u i in
      let y : ℕ = least_participant loc processes v j in
      let xy : x ≡ y = ap (λ a. least (λ p. has (loc a) p) processes) m.letter in
      let s = before u v i j x eq m (least_participant-takes loc letters processes u ou i m.in_u) in
      elim (cases_order (label loc processes u i) (label loc processes v j)) [
        | inl same ↦ same
        | inr o ↦ elim o [
          | inl lt ↦
              let d = label-least loc processes v j (label loc processes u i) lt in
              let t : IsTertiary (participants loc v) j x d.0 = subst (λ z. IsTertiary (participants loc v) j z d.0) (sym xy) d.1 in
              let f = pair-tertiary v u j i x d.0 (flip-equivalent u v eq) (flip-below u v i j x s) t in
              let k = f.2 in
              let below = tertiary-below (participants loc u) i x k.0 k.1 k.2 f.0 (tertiary-sound (participants loc u) i x k.0 k.1 k.2 f.0 k.3) in
              let ih = pair-label letters processes u v ou ov eq b f.0 d.0 (omega arith) (flip v u d.0 f.0 f.1) in
              absurd (label-free loc letters processes u ou i f.0 m.in_u f.2 (sym f.1.letter ∙ d.2 ∙ sym m.letter) (ih ∙ d.3))
          | inr gt ↦
              let d = label-least loc processes u i (label loc processes v j) gt in
              let f = pair-tertiary u v i j x d.0 eq s d.1 in
              let k = d.1 in
              let below = tertiary-below (participants loc u) i x k.0 k.1 k.2 d.0 (tertiary-sound (participants loc u) i x k.0 k.1 k.2 d.0 k.3) in
              let ih = pair-label letters processes u v ou ov eq b d.0 f.0 (omega arith) f.1 in
              let t : IsTertiary (participants loc v) j y f.0 = subst (λ z. IsTertiary (participants loc v) j z f.0) xy f.2 in
              absurd (label-free loc letters processes v ov j f.0 m.in_v t (sym f.1.letter ∙ d.2 ∙ m.letter) (sym ih ∙ d.3))
        ]
      ]

-- entries match if each that is an event has its match, both ways
matched-from : (u v : List ℕ) (o o' : Option ℕ) → ((e : ℕ) → o ≡ Some e → (e' : ℕ) × IsPair u v e e' × (o' ≡ Some e')) →
    ((e' : ℕ) → o' ≡ Some e' → (e : ℕ) × IsPair v u e' e × (o ≡ Some e)) → AreMatched u v o o'
matched-from u v None None f g = tt
matched-from u v None (Some j) f g = let k = (g j refl).2 in cc
matched-from u v (Some i) o' f g = let k = f i refl in subst (λ x. AreMatched u v (Some i) x) (sym k.2) (to-match u v i k.0 k.1)

-- an event has a process, whose projection has its match
pub events_match : EventsMatch
events_match loc letters processes u v i alphabet word e l =
    let p = (word-over loc letters processes u alphabet word).some i l in
    let f = pair-found loc u v i p.0 e l p.1 in
    (f.0, to-match u v i f.0 f.1)

-- by chains, which matches keep
pub views_agree : ViewsAgree
views_agree loc u v ps i j e m =
    let k = from-match u v i j m in
    same-test (in_view (participants loc u) (length u) ps i) (in_view (participants loc v) (length v) ps j)
    (pair-view loc u v (length u) (length v) ps i j e (omega arith) (λ x y p a b c d. a.in_v) k)
    (pair-view loc v u (length v) (length u) ps j i (flip-equivalent loc u v e) (omega arith) (λ x y p a b c d. a.in_v) (flip u v i j k))

-- a primary entry has a match that is one
pub same-primary : (loc : ℕ → List ℕ) (u v : List ℕ) (p q e : ℕ) → AreEquivalent loc u v → primary (participants loc u) (length u) p q ≡ Some e →
    (e' : ℕ) × IsPair u v e e' × (primary (participants loc v) (length v) p q ≡ Some e')
same-primary loc u v p q e eq h =
    let f = pair-latest loc u v (length u) (length v) p q e eq (whole loc u v p) (primary-sound (participants loc u) (length u) p q e h) in
    (f.0, f.1, primary-complete (participants loc v) (length v) p q f.0 f.2)

-- both ways
pub primary_entries_agree : PrimaryEntriesAgree
primary_entries_agree loc u v p q eq =
    matched-from u v (primary (participants loc u) (length u) p q) (primary (participants loc v) (length v) p q)
    (λ e. same-primary loc u v p q e eq) (λ e. same-primary loc v u p q e (flip-equivalent loc u v eq))

-- a secondary entry has a match that is one
same-secondary : (loc : ℕ → List ℕ) (u v : List ℕ) (p q r e : ℕ) → AreEquivalent loc u v → secondary (participants loc u) (length u) p q r ≡ Some e →
    (e' : ℕ) × IsPair u v e e' × (secondary (participants loc v) (length v) p q r ≡ Some e')
same-secondary loc u v p q r e eq h =
    let f = pair-second loc u v (length u) (length v) p q r e eq (whole loc u v p) (secondary-sound (participants loc u) (length u) p q r e h) in
    (f.0, f.1, secondary-complete (participants loc v) (length v) p q r f.0 f.2)

-- both ways
pub secondary_entries_agree : SecondaryEntriesAgree
secondary_entries_agree loc u v p q r eq =
    matched-from u v (secondary (participants loc u) (length u) p q r) (secondary (participants loc v) (length v) p q r)
    (λ e. same-secondary loc u v p q r e eq) (λ e. same-secondary loc v u p q r e (flip-equivalent loc u v eq))

-- a tertiary entry has a match that is one
same-tertiary : (loc : ℕ → List ℕ) (u v : List ℕ) (p q r s e : ℕ) → AreEquivalent loc u v → tertiary (participants loc u) (length u) p q r s ≡ Some e →
    (e' : ℕ) × IsPair u v e e' × (tertiary (participants loc v) (length v) p q r s ≡ Some e')
same-tertiary loc u v p q r s e eq h =
    let f = pair-third loc u v (length u) (length v) p q r s e eq (whole loc u v p) (tertiary-sound (participants loc u) (length u) p q r s e h) in
    (f.0, f.1, tertiary-complete (participants loc v) (length v) p q r s f.0 f.2)

-- both ways
pub tertiary_entries_agree : TertiaryEntriesAgree
tertiary_entries_agree loc u v p q r s eq =
    matched-from u v (tertiary (participants loc u) (length u) p q r s) (tertiary (participants loc v) (length v) p q r s)
    (λ e. same-tertiary loc u v p q r s e eq) (λ e. same-tertiary loc v u p q r s e (flip-equivalent loc u v eq))

-- with one more than the position as bound
pub labels_agree : LabelsAgree
labels_agree loc letters processes u v i j alphabet wu wv e m =
    pair-label loc letters processes u v (word-over loc letters processes u alphabet wu) (word-over loc letters processes v alphabet wv) e (suc i) i j
    (omega arith) (from-match u v i j m)

-- entries that match have one number
same-number : (loc : ℕ → List ℕ) (processes : ℕ) (u v : List ℕ) (o o' : Option ℕ) →
    ((i j : ℕ) → IsMatch u v i j → label loc processes u i ≡ label loc processes v j) →
    AreMatched u v o o' → number loc processes u o ≡ number loc processes v o'
same-number loc processes u v None None same m = refl
same-number loc processes u v None (Some j) same m = absurd m
same-number loc processes u v (Some i) None same m = absurd m
same-number loc processes u v (Some i) (Some j) same m =
    ap (λ a. number_of processes a (label loc processes u i)) m.same_letter ∙ ap (λ k. number_of processes (slice_index v j) k) (same i j m)

-- numbers that agree at all processes are the same
pub same-ids : (a b : Ids) → ((q : ℕ) → a.primary q ≡ b.primary q) → ((q r : ℕ) → a.secondary q r ≡ b.secondary q r) →
    ((q r s : ℕ) → a.tertiary q r s ≡ b.tertiary q r s) → a ≡ b
same-ids a b f g h =
    ap (λ x. record a { primary = x }) (fun_ext f)
    ∙ ap (λ x. record { primary = b.primary; secondary = x; tertiary = a.tertiary }) (fun_ext (λ q. fun_ext (g q)))
    ∙ ap (λ x. record { primary = b.primary; secondary = b.secondary; tertiary = x }) (fun_ext (λ q. fun_ext (λ r. fun_ext (h q r))))

-- entry by entry
pub ids_agree : IdsAgree
ids_agree loc letters processes u v p alphabet wu wv e =
    let same : (o o' : Option ℕ) → AreMatched u v o o' → number loc processes u o ≡ number loc processes v o' =
    λ o o'. same-number loc processes u v o o' (λ i j. labels_agree loc letters processes u v i j alphabet wu wv e) in
    same-ids (ids loc processes u (length u) p) (ids loc processes v (length v) p)
    (λ q. same (primary (participants loc u) (length u) p q) (primary (participants loc v) (length v) p q) (primary_entries_agree loc u v p q e))
    (λ q r. same (secondary (participants loc u) (length u) p q r) (secondary (participants loc v) (length v) p q r) (secondary_entries_agree loc u v p q r e))
    (λ q r s. same (tertiary (participants loc u) (length u) p q r s) (tertiary (participants loc v) (length v) p q r s)
    (tertiary_entries_agree loc u v p q r s e))
