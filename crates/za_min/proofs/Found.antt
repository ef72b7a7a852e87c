-- Breadth first, each state is found by its shortlex-least word, in the order of these words.
use Rattle.std.proofs.Common.{◌≡◌, ◌≢◌, ℕ, suc, ◌+◌, ◌<◌, ◌≤◌, true, false, ◌⊎◌, inl, inr, List, [], ◌∷◌, ◌++◌, length, map, get_or, refl, sym, ap, subst, ◌∙◌}
use Rattle.std.proofs.Common.{arith, eqb, eqb-true, length-append, append_assoc, append-nil}
use Rattle.std.specs.List.{list_any, IsDistinct}
use Rattle.std.proofs.lemmas.Bool.{cases_lt, cases_eq, ne_eqb, or_cases, false_from_ne_true}
use Rattle.std.proofs.lemmas.List.{get_or_append_left, get_or-map, length-map}
use Rattle.std.proofs.lemmas.Map.Keys.{IsDistinct-from_apart}
use Rattle.std.proofs.lemmas.Map.Steps.{length-le_from_distinct_below}
use Rattle.std.proofs.Math.Seq.{get_or-append_seam}
use Rattle.std.proofs.lemmas.List.Elements.{All-nil, All-push, All-head}
use Rattle.za_alpha.specs.Words.{IsWord}
use Rattle.za_alpha.proofs.Swaps.{all-right}
use Rattle.za_dfa.specs.Automata.{Automaton, IsTotal}
use Rattle.za_dfa.proofs.Diamonds.{walk-append, walk-below}
use Rattle.za_min.specs.Shortlex.{comes_before}
use Rattle.za_min.specs.Minimal.{word_at}
use Rattle.za_min.specs.Private.Exploring.{state_of, IsDone, IsLonger, IsMet, AreFound}
use Rattle.za_min.proofs.Order.{before-not-self, before-not-back, before-more, before-last, before-nil, not-before-trans, not-before-more}

-- a value of a map is that of an element
any-map : (f : List ℕ → ℕ) (words : List (List ℕ)) (q : ℕ) → list_any (eqb q) (map f words) ≡ true → (k : ℕ) × (k < length words) × (q ≡ f (word_at words k))
any-map f [] q h = cc
any-map f (w ∷ words) q h =
    elim (or_cases (eqb q (f w)) (list_any (eqb q) (map f words)) h) [
      | inl e ↦ (0, omega arith, eqb-true q (f w) e)
      | inr t ↦ let r = any-map f words q t in (suc r.0, let l = r.1 in omega arith, r.2)
    ]

-- words that a map tells apart are no more than the values below n
apart-length : (f : List ℕ → ℕ) (words : List (List ℕ)) (n : ℕ) → ((k : ℕ) → k < length words → f (word_at words k) < n) →
    ((j k : ℕ) → j < k → k < length words → f (get_or words j []) ≢ f (word_at words k)) → length words ≤ n
apart-length f words n below apart =
    let len = length-map words f in
    let at : (i d : ℕ) → i < length words → get_or (map f words) i d ≡ f (get_or words i []) = λ i d l. get_or-map f words i [] d l in
    let dist : IsDistinct eqb (map f words) =
    IsDistinct-from_apart eqb (map f words) (λ i j d ij jl.
    let jw : j < length words = omega arith in
    let iw : i < length words = omega arith in
    ne_eqb (get_or (map f words) i d) (get_or (map f words) j d) (λ e. apart i j ij jw (sym (at i d iw) ∙ e ∙ at j d jw))) in
    let k = length-le_from_distinct_below (map f words) n dist (λ q h. let r = any-map f words q h in rw r.2 (below r.0 r.1)) in omega arith

module _ (d : Automaton) where
  -- each word so far comes before the next
  before-next : (i a : ℕ) (words : List (List ℕ)) → AreFound d i a words → i < length words → (k : ℕ) → k < length words →
      comes_before (word_at words k) (word_at words i ++ a ∷ []) ≡ true
  before-next i a words s il k kl =
      elim (s.origin k kl) [
        | inl e ↦ rw e (before-nil (word_at words i) a)
        | inr c ↦ rw c.is (elim c.done [
          | inl l ↦ before-more (word_at words c.from) (word_at words i) c.by a (s.rising c.from i l il)
          | inr r ↦ subst (λ x. comes_before (word_at words x ++ c.by ∷ []) (word_at words i ++ a ∷ []) ≡ true) (sym r.0)
              (before-last (word_at words i) c.by a r.1)
        ])
      ]

  -- what is done after one letter more
  done-next : (i a j b : ℕ) → IsDone i (suc a) j b → (IsDone i a j b) ⊎ ((j ≡ i) × (b ≡ a))
  done-next i a j b h =
      elim h [
        | inl l ↦ inl (inl l)
        | inr r ↦ elim (cases_eq b a) [ inl e ↦ inr (r.0, e) | inr n ↦ let l = r.1 in inl (inr (r.0, omega arith)) ]
      ]

  done-more : (i a j b : ℕ) → IsDone i a j b → IsDone i (suc a) j b
  done-more i a j b h = elim h [ inl l ↦ inl l | inr r ↦ let l = r.1 in inr (r.0, omega arith) ]

  -- the state is there already
  pub stays : (i a : ℕ) (words : List (List ℕ)) → AreFound d i a words → i < length words →
      ((k : ℕ) × (k < length words) × (state_of d (word_at words k) ≡ d.step (state_of d (word_at words i)) a)) → AreFound d i (suc a) words
  stays i a words s il k =
      record {
        some = s.some;
        first = s.first;
        word = s.word;
        rising = s.rising;
        origin = λ x l. elim (s.origin x l)
            [ inl e ↦ inl e | inr c ↦ inr (record { from = c.from; by = c.by; within = c.within; done = done-more i a c.from c.by c.done; is = c.is }) ];
        met = λ j b jl bl h. elim (done-next i a j b h) [
          | inl o ↦ s.met j b jl bl o
          | inr e ↦ subst (λ x. IsMet d words x b) (sym e.0)
              (subst (λ y. IsMet d words i y) (sym e.1)
              (record {
                to = k.0;
                within = k.1;
                state = k.2;
                least =
                    before-not-back (word_at words k.0) (word_at words i ++ a ∷ []) (before-next i a words s il k.0 k.1);
              }))
        ];
        apart = s.apart;
      }

  -- a state is new
  pub grows : (i a : ℕ) (words : List (List ℕ)) → AreFound d i a words → i < length words → a < d.letters →
      ((k : ℕ) → k < length words → state_of d (word_at words k) ≢ d.step (state_of d (word_at words i)) a) →
      AreFound d i (suc a) (words ++ (word_at words i ++ a ∷ []) ∷ [])
  grows i a words s il al f =
      let new = word_at words i ++ a ∷ [] in
      let all = words ++ new ∷ [] in
      let len : length all ≡ length words + 1 = length-append words (new ∷ []) in
      let old : (k : ℕ) → k < length words → word_at all k ≡ word_at words k = λ k l. get_or_append_left words (new ∷ []) [] k l in
      let last : word_at all (length words) ≡ new = get_or-append_seam words new [] [] in
      let end : (k : ℕ) → k < length all → (k < length words) ⊎ (k ≡ length words) =
      λ k l. elim (cases_lt k (length words)) [ inl x ↦ inl x | inr y ↦ inr (omega arith) ] in
      let there : state_of d new ≡ d.step (state_of d (word_at words i)) a = walk-append d.step d.start (word_at words i) (a ∷ []) in
      record {
        some = let z = s.some in omega arith;
        first = old 0 s.some ∙ s.first;
        word = λ k l. elim (end k l) [
          | inl x ↦ rw (old k x) (s.word k x)
          | inr e ↦ rw (ap (word_at all) e ∙ last) (All-push (λ b. b < d.letters) (word_at words i) a (s.word i il) al)
        ];
        rising = λ j k jk l. elim (end k l) [
          | inl x ↦ let y : j < length words = omega arith in
              subst (λ u. comes_before u (word_at all k) ≡ true) (sym (old j y))
              (subst (λ v. comes_before (word_at words j) v ≡ true) (sym (old k x)) (s.rising j k jk x))
          | inr e ↦ let y : j < length words = omega arith in
              subst (λ u. comes_before u (word_at all k) ≡ true) (sym (old j y))
              (subst (λ v. comes_before (word_at words j) v ≡ true) (sym (ap (word_at all) e ∙ last)) (before-next i a words s il j y))
        ];
        origin = λ k l. elim (end k l) [
          | inl x ↦ elim (s.origin k x) [
            | inl e ↦ inl (old k x ∙ e)
            | inr c ↦ inr (record {
              from = c.from;
              by = c.by;
              within = let z = c.within in omega arith;
              done = done-more i a c.from c.by c.done;
              is = old k x
                  ∙ c.is ∙ ap (λ u. u ++ c.by ∷ []) (sym (old c.from c.within));
            })
          ]
          | inr e ↦ inr (record {
            from = i;
            by = a;
            within = omega arith;
            done = inr (refl, omega arith);
            is = ap (word_at all) e ∙ last
                ∙ ap (λ u. u ++ a ∷ []) (sym (old i il));
          })
        ];
        met = λ j b jl bl h. elim (done-next i a j b h) [
          | inl o ↦ elim (end j jl) [
            | inl x ↦
                let c = s.met j b x bl o in
                record {
                  to = c.to;
                  within = let z = c.within in omega arith;
                  state = ap (state_of d) (old c.to c.within) ∙ c.state ∙ ap (λ u. d.step (state_of d u) b) (sym (old j x));
                  least = subst (λ u. comes_before (u ++ b ∷ []) (word_at all c.to) ≡ false) (sym (old j x))
                      (subst (λ v. comes_before (word_at words j ++ b ∷ []) v ≡ false) (sym (old c.to c.within)) c.least);
                }
            | inr e ↦ absurd (elim o [ inl l ↦ omega arith | inr r ↦ let z = r.0 in omega arith ])
          ]
          | inr e ↦ subst (λ x. IsMet d all x b) (sym e.0) (subst (λ y. IsMet d all i y) (sym e.1) (record {
            to = length words;
            within = omega arith;
            state = ap (state_of d) last ∙ there ∙ ap (λ u. d.step (state_of d u) a) (sym (old i il));
            least = subst (λ u. comes_before (u ++ a ∷ []) (word_at all (length words)) ≡ false) (sym (old i il))
                (subst (λ v. comes_before new v ≡ false) (sym last) (false_from_ne_true (comes_before new new) (before-not-self new)));
          }))
        ];
        apart = λ j k jk l e. elim (end k l) [
          | inl x ↦ let y : j < length words = omega arith in s.apart j k jk x (ap (state_of d) (sym (old j y)) ∙ e ∙ ap (state_of d) (old k x))
          | inr z ↦
              let y : j < length words = omega arith in
              f j y (ap (state_of d) (sym (old j y)) ∙ e ∙ ap (state_of d) (ap (word_at all) z ∙ last) ∙ there)
        ];
      }

  -- all letters of a place are done
  pub next-row : (i : ℕ) (words : List (List ℕ)) → AreFound d i d.letters words → AreFound d (suc i) 0 words
  next-row i words s =
      record {
        some = s.some;
        first = s.first;
        word = s.word;
        rising = s.rising;
        origin = λ k l. elim (s.origin k l) [
          | inl e ↦ inl e
          | inr c ↦ inr (record {
            from = c.from;
            by = c.by;
            within = c.within;
            done =
                elim c.done [ inl x ↦ inl (omega arith) | inr x ↦ let z = x.0 in inl (omega arith) ];
            is = c.is;
          })
        ];
        met = λ j b jl bl h. s.met j b jl bl (elim h [
          | inl x ↦ elim (cases_eq j i) [ inl e ↦ inr (e, bl) | inr n ↦ inl (omega arith) ]
          | inr x ↦ absurd (let z = x.1 in omega arith)
        ]);
        apart = s.apart;
      }

  -- at first there is the empty word
  pub found-start : AreFound d 0 0 ([] ∷ [])
  found-start =
      let one : List (List ℕ) = [] ∷ [] in
      let nil : List ℕ = [] in
      record {
        some = omega arith;
        first = refl;
        word = λ k l. let e : 0 ≡ k = omega arith in subst (λ x. IsWord d.letters (get_or one x nil)) e (All-nil (λ a. a < d.letters));
        rising = λ j k jk l. absurd (omega arith);
        origin = λ k l. let e : 0 ≡ k = omega arith in subst (λ x. (get_or one x nil ≡ nil) ⊎ IsLonger 0 0 one (get_or one x nil)) e (inl refl);
        met = λ j b jl bl h. absurd (elim h [ inl x ↦ omega arith | inr x ↦ let z = x.1 in omega arith ]);
        apart = λ j k jk l e. absurd (omega arith);
      }

-- the words are no more than the states
pub found-few : (d : Automaton) → IsTotal d → (i a : ℕ) (words : List (List ℕ)) → AreFound d i a words → length words ≤ d.states
found-few d total i a words s = apart-length (state_of d) words d.states (λ k l. walk-below d total d.start (word_at words k) total.starts (s.word k l)) s.apart

module _ (d : Automaton) (words : List (List ℕ)) (done : ℕ) (s : AreFound d done 0 words) (all : length words ≤ done) where
  -- a word of the list leads where v does, and v does not come before it
  record Meets (v : List ℕ) : Type 0 where
    place : ℕ
    within : place < length words
    state : state_of d (word_at words place) ≡ state_of d v
    least : comes_before v (word_at words place) ≡ false

  meets-more : (x y : List ℕ) → IsWord d.letters (x ++ y) → Meets x → Meets (x ++ y)
  meets-more x [] h m = subst (λ z. Meets z) (sym (append-nil x)) m
  meets-more x (a ∷ y) h m =
      let al = All-head (λ c. c < d.letters) a y (all-right (λ c. c < d.letters) x (a ∷ y) h) in
      let sh : (x ++ a ∷ []) ++ y ≡ x ++ a ∷ y = append_assoc x (a ∷ []) y in
      let ml = m.within in
      let c = s.met m.place a m.within al (inl (omega arith)) in
      let one : Meets (x ++ a ∷ []) = record {
        place = c.to;
        within = c.within;
        state = c.state ∙ ap (λ q. d.step q a) m.state ∙ sym (walk-append d.step d.start x (a ∷ []));
        least = not-before-trans (word_at words c.to) (word_at words m.place ++ a ∷ []) (x ++ a ∷ []) c.least
            (not-before-more x (word_at words m.place) a m.least);
      } in
      subst (λ z. Meets z) sh (meets-more (x ++ a ∷ []) y (subst (λ z. IsWord d.letters z) (sym sh) h) one)

  meets-all : (v : List ℕ) → IsWord d.letters v → Meets v
  meets-all v h =
      meets-more [] v h (record {
        place = 0;
        within = s.some;
        state = ap (state_of d) s.first;
        least = rw s.first (false_from_ne_true (comes_before [] []) (before-not-self []));
      })

  -- each word leads where a word of the list does
  pub all-found : (v : List ℕ) → IsWord d.letters v → (k : ℕ) × (k < length words) × (state_of d (word_at words k) ≡ state_of d v)
  all-found v h = let m = meets-all v h in (m.place, m.within, m.state)

  -- words of the list that lead to one state are one
  pub same-place : (j k : ℕ) → j < length words → k < length words → state_of d (word_at words j) ≡ state_of d (word_at words k) → j ≡ k
  same-place j k jl kl e =
      elim (cases_eq j k) [
        | inl same ↦ same
        | inr n ↦ absurd (elim (cases_lt j k) [
          | inl l ↦ s.apart j k l kl e
          | inr g ↦ s.apart k j (omega arith) jl (sym e)
        ])
      ]

  -- no word that leads where word k does comes before it
  pub found-least : (k : ℕ) (v : List ℕ) → k < length words → IsWord d.letters v → state_of d v ≡ state_of d (word_at words k) →
      comes_before v (word_at words k) ≡ false
  found-least k v l h e =
      let m = meets-all v h in
      subst (λ x. comes_before v (word_at words x) ≡ false) (same-place m.place k m.within l (m.state ∙ e)) m.least
