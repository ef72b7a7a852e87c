-- The events of equivalent words that match, and their order.
use Rattle.std.proofs.Common.{◌≡◌, ℕ, ◌<◌, ◌≤◌, Bool, true, inl, inr, List, ◌==◌, length, take, filter, slice_index, refl, sym, ap, subst, ◌∙◌, arith, eqb-true}
use Rattle.std.proofs.Common.{eq-eqb}
use Rattle.std.proofs.lemmas.Bool.{cases_lt, cases_order}
use Rattle.std.proofs.lemmas.List.Sums.{length-filter}
use Rattle.za_alpha.specs.Words.{has, AreEquivalent}
use Rattle.za_order.specs.Views.{participants, in_view, Chain, Here, Then}
use Rattle.za_order.specs.Words.{IsMatch}
use Rattle.za_order.proofs.Views.{view-sound, view-complete}
use Rattle.za_order.proofs.Ranks.{rank, rank-less, rank-mono, rank-read, rank-rank, rank-find}

-- in lists that a test leaves equal, the k-th occurrences of a kind of letter have one rank
same-rank : (t s : ℕ → Bool) → ((x : ℕ) → s x ≡ true → t x ≡ true) → (u v : List ℕ) (i j : ℕ) → filter t u ≡ filter t v →
    i < length u → j < length v → s (slice_index u i) ≡ true → s (slice_index v j) ≡ true → rank s u i ≡ rank s v j → rank t u i ≡ rank t v j
same-rank t s sub u v i j e li lj si sj k =
    let a = rank-read t u i li (sub (slice_index u i) si) in
    let b = rank-read t v j lj (sub (slice_index v j) sj) in
    let l : List ℕ = filter t u in
    let ra = rank-rank s t sub u i in
    let rb : rank s l (rank t v j) ≡ rank s v j = ap (λ x. rank s x (rank t v j)) e ∙ rank-rank s t sub v j in
    let sa : s (slice_index l (rank t u i)) ≡ true = subst (λ x. s x ≡ true) (sym a.1) si in
    let sb : s (slice_index l (rank t v j)) ≡ true = subst (λ x. s x ≡ true) (sym (ap (λ x. slice_index x (rank t v j)) e ∙ b.1)) sj in
    let long : rank t v j < length l = subst (λ x. rank t v j < length x) (sym e) b.0 in
    let la = a.0 in
    elim (cases_order (rank t u i) (rank t v j)) [
      | inl same ↦ same
      | inr o ↦ elim o [
        | inl lt ↦ absurd (let c = rank-less s l (rank t u i) (rank t v j) lt (omega arith) sa in omega arith)
        | inr gt ↦ absurd (let c = rank-less s l (rank t v j) (rank t u i) gt (omega arith) sb in omega arith)
      ]
    ]

-- a position of u has one in v with the same letter and rank
same-found : (t s : ℕ → Bool) → ((x : ℕ) → s x ≡ true → t x ≡ true) → (u v : List ℕ) (i : ℕ) → filter t u ≡ filter t v →
    i < length u → t (slice_index u i) ≡ true → (j : ℕ) × (j < length v) × (slice_index u i ≡ slice_index v j) × (rank s u i ≡ rank s v j)
same-found t s sub u v i e li ti =
    let a = rank-read t u i li ti in
    let f = rank-find t v (rank t u i) (subst (λ x. rank t u i < length x) e a.0) in
    let b = rank-read t v f.0 f.1 f.2 in (
      f.0,
      f.1,
      sym a.1 ∙ ap (λ x. slice_index x (rank t u i)) e ∙ ap (λ x. slice_index (filter t v) x) (sym f.3) ∙ b.1,
      sym (rank-rank s t sub u i) ∙ ap (λ x. rank s x (rank t u i)) e ∙ ap (λ x. rank s (filter t v) x) (sym f.3) ∙ rank-rank s t sub v f.0,
    )

-- a match by ranks
pub record IsPair (u v : List ℕ) (i j : ℕ) : Type 0 where
  pub in_u : i < length u
  pub in_v : j < length v
  pub letter : slice_index u i ≡ slice_index v j
  pub count : rank (λ a. a == slice_index u i) u i ≡ rank (λ a. a == slice_index u i) v j

-- a match is a match by ranks
pub from-match : (u v : List ℕ) (i j : ℕ) → IsMatch u v i j → IsPair u v i j
from-match u v i j m = record {
  in_u = m.in_first;
  in_v = m.in_second;
  letter = m.same_letter;
  count = length-filter (λ a. a == slice_index u i) (take i u) ∙ m.same_count ∙ sym (length-filter (λ a. a == slice_index v j) (take j v))
      ∙ ap (λ x. rank (λ a. a == x) v j) (sym m.same_letter);
}

-- and back
pub to-match : (u v : List ℕ) (i j : ℕ) → IsPair u v i j → IsMatch u v i j
to-match u v i j m = record {
  in_first = m.in_u;
  in_second = m.in_v;
  same_letter = m.letter;
  same_count = sym (length-filter (λ a. a == slice_index u i) (take i u)) ∙ m.count
      ∙ ap (λ x. rank (λ a. a == x) v j) m.letter ∙ length-filter (λ a. a == slice_index v j) (take j v);
}

-- a match goes both ways
pub flip : (u v : List ℕ) (i j : ℕ) → IsPair u v i j → IsPair v u j i
flip u v i j m = record {
  in_u = m.in_v;
  in_v = m.in_u;
  letter = sym m.letter;
  count = ap (λ x. rank (λ a. a == x) v j) (sym m.letter) ∙ sym m.count ∙ ap (λ x. rank (λ a. a == x) u i) m.letter;
}

module _ (loc : ℕ → List ℕ) where
  -- a letter of p passes the test of p
  kind : (p a x : ℕ) → has (loc a) p ≡ true → (x == a) ≡ true → has (loc x) p ≡ true
  kind p a x h e = subst (λ y. has (loc y) p ≡ true) (sym (eqb-true x a e)) h

  -- events that match have the same processes
  pub pair-has : (u v : List ℕ) (i j p : ℕ) → IsPair u v i j → has (participants loc u i) p ≡ true → has (participants loc v j) p ≡ true
  pair-has u v i j p m h = subst (λ y. has (loc y) p ≡ true) m.letter h

  -- and one rank among the events of each
  pub pair-rank : (u v : List ℕ) (i j p : ℕ) → AreEquivalent loc u v → IsPair u v i j → has (participants loc u i) p ≡ true →
      rank (λ a. has (loc a) p) u i ≡ rank (λ a. has (loc a) p) v j
  pair-rank u v i j p e m h =
      same-rank (λ a. has (loc a) p) (λ a. a == slice_index u i) (λ x. kind p (slice_index u i) x h) u v i j (e p) m.in_u m.in_v
      (eq-eqb (slice_index u i) (slice_index u i) refl) (eq-eqb (slice_index v j) (slice_index u i) (sym m.letter)) m.count

  -- an event of a process has a match
  pub pair-found : (u v : List ℕ) (i p : ℕ) → AreEquivalent loc u v → i < length u → has (participants loc u i) p ≡ true → (j : ℕ) × IsPair u v i j
  pair-found u v i p e l h =
      let f = same-found (λ a. has (loc a) p) (λ a. a == slice_index u i) (λ x. kind p (slice_index u i) x h) u v i (e p) l h in
      (f.0, record { in_u = l; in_v = f.1; letter = f.2; count = f.3 })

  -- matches keep the order of each process
  pub pair-less : (u v : List ℕ) (i j k l p : ℕ) → AreEquivalent loc u v → IsPair u v i j → IsPair u v k l →
      has (participants loc u i) p ≡ true → has (participants loc u k) p ≡ true → i < k → j < l
  pair-less u v i j k l p e a b hi hk lt =
      let ra = pair-rank u v i j p e a hi in
      let rb = pair-rank u v k l p e b hk in
      let bound = b.in_u in
      let less = rank-less (λ a. has (loc a) p) u i k lt (omega arith) hi in
      elim (cases_lt j l) [
        | inl lower ↦ lower
        | inr above ↦ absurd (let long = a.in_v in let c = rank-mono (λ a. has (loc a) p) v l j above (omega arith) in omega arith)
      ]

  -- an event has one match
  pub pair-one : (u v : List ℕ) (i j l : ℕ) → IsPair u v i j → IsPair u v i l → j ≡ l
  pair-one u v i j l a b =
      let s : ℕ → Bool = λ x. x == slice_index u i in
      let k = a.count in
      let m = b.count in
      let bj = a.in_v in
      let bl = b.in_v in
      elim (cases_order j l) [
        | inl same ↦ same
        | inr o ↦ elim o [
          | inl lt ↦ absurd (let c = rank-less s v j l lt (omega arith) (eq-eqb (slice_index v j) (slice_index u i) (sym a.letter)) in omega arith)
          | inr gt ↦ absurd (let c = rank-less s v l j gt (omega arith) (eq-eqb (slice_index v l) (slice_index u i) (sym b.letter)) in omega arith)
        ]
      ]

  -- matches keep chains
  pub pair-chain : (u v : List ℕ) {i k : ℕ} (j l : ℕ) → AreEquivalent loc u v → Chain (participants loc u) i k → IsPair u v i j → IsPair u v k l →
      Chain (participants loc v) j l
  pair-chain u v {i} j l e Here a b = subst (λ x. Chain (participants loc v) j x) (pair-one u v i j l a b) Here
  pair-chain u v j l e (Then {j = m} {k = k} p c lt hm hk) a b =
      let bound = b.in_u in
      let f = pair-found u v m p e (omega arith) hm in
      Then p (pair-chain u v j f.0 e c a f.1) (pair-less u v m f.0 k l p e f.1 b hm hk lt) (pair-has u v m f.0 p f.1 hm) (pair-has u v k l p b hk)

  -- where the events of ps below n are matched below n', views match
  pub pair-view : (u v : List ℕ) (n n' : ℕ) (ps : List ℕ) (i j : ℕ) → AreEquivalent loc u v → n ≤ length u →
      ((x y p : ℕ) → IsPair u v x y → has (participants loc u x) p ≡ true → has ps p ≡ true → x < n → y < n') →
      IsPair u v i j → in_view (participants loc u) n ps i ≡ true → in_view (participants loc v) n' ps j ≡ true
  pair-view u v n n' ps i j e ln sends m h =
      let r = view-sound (participants loc u) n ps i h in
      let b = r.below in
      let f = pair-found u v r.event r.process e (omega arith) r.takes in
      view-complete (participants loc v) n' ps j f.0 r.process (sends r.event f.0 r.process f.1 r.takes r.asked r.below)
      (pair-has u v r.event f.0 r.process f.1 r.takes) r.asked (pair-chain u v j f.0 e r.chain m f.1)
