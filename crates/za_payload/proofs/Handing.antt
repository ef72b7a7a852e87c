-- What a meeting makes of a circle.
use Rattle.std.proofs.Common.{◌≡◌, ℕ, suc, ◌+◌, ◌<◌, true, false, inl, inr, List, [], ◌∷◌, ◌++◌, length, map, get_or, slice_index, Option, Some}
use Rattle.std.proofs.Common.{None, cond, refl, sym, ap, subst, ◌∙◌, arith, length-append}
use Rattle.std.specs.Prelude.{All}
use Rattle.std.specs.Option.{option_map}
use Rattle.std.specs.List.{range_with_len}
use Rattle.std.proofs.Math.Seq.{get_or-append_seam}
use Rattle.std.proofs.lemmas.Bool.{cases_Bool, cond-true, cond-false}
use Rattle.std.proofs.lemmas.List.{get_or_append_left}
use Rattle.std.proofs.lemmas.List.FromFn.{fill_by_all, get_or-map-range_with_len}
use Rattle.std.proofs.lemmas.List.Elements.{All-head, All-tail}
use Rattle.za_alpha.specs.Words.{has, IsAlphabet}
use Rattle.za_alpha.specs.Alphabet.{DistributedAlphabet, loc_of, IsDistributed}
use Rattle.za_order.specs.Views.{participants}
use Rattle.za_order.specs.Entries.{primary}
use Rattle.za_order.specs.Locals.{best}
use Rattle.za_order.proofs.Entries.{primary-below, primary-sound}
use Rattle.za_order.proofs.Prefixes.{view-same, primary-same}
use Rattle.za_order.proofs.Steps.{primary_of_participant, primary_kept}
use Rattle.za_order.proofs.LatestNews.{IsNewest, newest-some, best-newest}
use Rattle.za_order.proofs.NextEntries.{primary-newest}
use Rattle.za_order.proofs.NextLetter.{length-next, word-next, agrees, seam, at-seam}
use Rattle.za_gossip.specs.Rows.{Rows, rows_after, blank_rows, AreRowsAfter}
use Rattle.za_gossip.proofs.Updates.{rows-kept}
use Rattle.za_payload.specs.Knowledge.{known_after}
use Rattle.za_payload.specs.Circles.{CircleState, known_in, IsCircleAfter}
use Rattle.za_payload.specs.Private.Meeting.{best_of}

-- functions that agree below n make the same list of numbers below n
map-below : {X : Type 0} (f g : ℕ → X) (n : ℕ) (xs : List ℕ) → ((p : ℕ) → p < n → f p ≡ g p) → All (λ p. p < n) xs → map f xs ≡ map g xs
map-below f g n [] h all = refl
map-below f g n (x ∷ xs) h all =
    ap (λ y. y ∷ map f xs) (h x (All-head (λ p. p < n) x xs all)) ∙ ap (λ ys. g x ∷ ys) (map-below f g n xs h (All-tail (λ p. p < n) x xs all))

-- the rows of one process among those of all
pub row-at : (alphabet : DistributedAlphabet) (w : List ℕ) (rows : List Rows) → AreRowsAfter alphabet w (range_with_len 0 alphabet.processes) rows →
    (p : ℕ) (e : Rows) → p < alphabet.processes → get_or rows p e ≡ rows_after (loc_of alphabet) alphabet.processes w p
row-at alphabet w rows given p e l =
    let n = alphabet.processes in
    ap (λ rs. get_or rs p e) given.rows ∙ get_or-map-range_with_len (rows_after (loc_of alphabet) n w) 0 n p p e l (omega arith)

-- the participants' rows side by side
pub gathered-rows : (alphabet : DistributedAlphabet) (w : List ℕ) (a : ℕ) (rows inputs : List Rows) (listed : List ℕ) →
    AreRowsAfter alphabet w (range_with_len 0 alphabet.processes) rows → listed ≡ loc_of alphabet a → All (λ p. p < alphabet.processes) listed →
    inputs ≡ map (λ p. get_or rows p (blank_rows 0)) listed → AreRowsAfter alphabet w (loc_of alphabet a) inputs
gathered-rows alphabet w a rows inputs listed given is below copied =
    let f = rows_after (loc_of alphabet) alphabet.processes w in
    let each = λ (p : ℕ) (l : p < alphabet.processes). row-at alphabet w rows given p (blank_rows 0) l in
    record {
      word = given.word;
      rows = copied ∙ map-below (λ p. get_or rows p (blank_rows 0)) f alphabet.processes listed each below ∙ ap (map f) is;
    }

module _ (loc : ℕ → List ℕ) (letters processes : ℕ) (al : IsAlphabet loc letters processes) (w : List ℕ) (a : ℕ) (small : a < letters)
    (values : List ℕ) (value : ℕ) (one-each : length values ≡ length w) where
  abbrev wa : List ℕ
  wa = w ++ a ∷ []

  abbrev n : ℕ
  n = length w

  abbrev who : ℕ → List ℕ
  who = participants loc w

  abbrev who-then : ℕ → List ℕ
  who-then = participants loc wa

  abbrev wrote : ℕ → ℕ
  wrote = slice_index (values ++ value ∷ [])

  -- the events before are the same
  same-before : (j : ℕ) → j < n → who j ≡ who-then j
  same-before j l = ap loc (sym (agrees w a j l))

  last-is : who-then n ≡ loc a
  last-is = ap loc (seam w a)

  -- what an earlier event wrote stays
  kept-values : (o : Option ℕ) → ((e : ℕ) → o ≡ Some e → e < n) → option_map wrote o ≡ option_map (slice_index values) o
  kept-values None h = refl
  kept-values (Some e) h = let l = h e refl in let k : e < length values = omega arith in ap (λ x. Some x) (get_or_append_left values (value ∷ []) 0 e k)

  below-now : (p q e : ℕ) → primary who n p q ≡ Some e → e < n
  below-now p q e h = primary-below who n p q e (primary-sound who n p q e h)

  -- the best has the latest news
  best-is : (q : ℕ) → IsNewest who n (loc a) q (best who processes n (loc a) q)
  best-is q =
      let p = al.some a small in
      let some = newest-some who n (loc a) q p.0 p.1 in
      best-newest who n processes (loc a) q some.0 (al.below a some.0 small some.1.among) some.1

  best-later : (q : ℕ) → IsNewest who-then n (who-then n) q (best who processes n (loc a) q)
  best-later q =
      let b = best who processes n (loc a) q in
      let k = best-is q in
      subst (λ xs. IsNewest who-then n xs q b) (sym last-is)
      (record {
        among = k.among;
        knows = λ y e h l. sym (view-same who who-then n (b ∷ []) e same-before) ∙ k.knows y e h (primary-same who who-then n y q same-before ∙ l);
      })

  later : (p q : ℕ) → known_after loc wa wrote p q ≡ option_map wrote (primary who-then (suc n) p q)
  later p q = ap (λ m. option_map wrote (primary who-then m p q)) (length-next w a)

  -- and what was known before stays
  earlier : (p q : ℕ) → option_map wrote (primary who-then n p q) ≡ known_after loc w (slice_index values) p q
  earlier p q =
      ap (option_map wrote) (sym (primary-same who who-then n p q same-before))
      ∙ kept-values (primary who n p q) (below-now p q)

  -- a participant knows the value of each participant
  pub knows-own : (p q : ℕ) → has (loc a) p ≡ true → has (loc a) q ≡ true → known_after loc wa wrote p q ≡ Some value
  knows-own p q hp hq =
      later p q ∙ ap (option_map wrote) (primary_of_participant who-then n p q (at-seam loc w a p ∙ hp) (at-seam loc w a q ∙ hq))
      ∙ ap (λ x. Some x) (ap wrote (sym one-each) ∙ get_or-append_seam values value [] 0)

  -- and of each other what the best knew
  pub knows-best : (p q : ℕ) → has (loc a) p ≡ true → has (loc a) q ≡ false →
      known_after loc wa wrote p q ≡ known_after loc w (slice_index values) (best who processes n (loc a) q) q
  knows-best p q hp hq =
      let b = best who processes n (loc a) q in
      later p q
      ∙ ap (option_map wrote)
      (primary-newest who-then n p q b (at-seam loc w a p ∙ hp) (at-seam loc w a q ∙ hq) (best-later q))
      ∙ earlier b q

  -- others know what they knew
  pub knows-kept : (p q : ℕ) → has (loc a) p ≡ false → known_after loc wa wrote p q ≡ known_after loc w (slice_index values) p q
  knows-kept p q hp =
      later p q
      ∙ ap (option_map wrote) (primary_kept who-then n p q (at-seam loc w a p ∙ hp))
      ∙ earlier p q

  pub best-below : (q : ℕ) → best who processes n (loc a) q < processes
  best-below q = al.below a (best who processes n (loc a) q) small (best-is q).among

-- what the parts of a circle are after a meeting: the participants have the next rows and what was heard, and the others
-- what they had
pub record AreHanded (alphabet : DistributedAlphabet) (w : List ℕ) (a value : ℕ) (old new : CircleState) (next : Rows) (heard : List (Option ℕ)) : Type 0 where
  pub processes : new.processes ≡ alphabet.processes
  pub size : length new.rows ≡ alphabet.processes
  pub next_is : (p : ℕ) → has (loc_of alphabet a) p ≡ true → next ≡ rows_after (loc_of alphabet) alphabet.processes (w ++ a ∷ []) p
  pub heard_is : (q : ℕ) → q < alphabet.processes →
      get_or heard q None ≡ cond (has (loc_of alphabet a) q) (Some value) (known_in old.known (best_of alphabet w a q) q)
  pub rows : (p : ℕ) → p < alphabet.processes → get_or new.rows p (blank_rows 0) ≡ cond (has (loc_of alphabet a) p) next (get_or old.rows p (blank_rows 0))
  pub known : (p : ℕ) → p < alphabet.processes → get_or new.known p [] ≡ cond (has (loc_of alphabet a) p) heard (get_or old.known p [])

module _ (alphabet : DistributedAlphabet) (w values : List ℕ) (a value : ℕ) (old new : CircleState) (next : Rows)
    (heard : List (Option ℕ)) (dist : IsDistributed alphabet) (small : a < length alphabet.letters) (before : IsCircleAfter alphabet w values old)
    (h : AreHanded alphabet w a value old new next heard) where
  abbrev loc : ℕ → List ℕ
  loc = loc_of alphabet

  -- one process has its rows after the event
  row-after : (p : ℕ) → p < alphabet.processes → get_or new.rows p (blank_rows 0) ≡ rows_after loc alphabet.processes (w ++ a ∷ []) p
  row-after p l =
      h.rows p l ∙ elim (cases_Bool (has (loc a) p)) [
        | inl t ↦ cond-true (has (loc a) p) next (get_or old.rows p (blank_rows 0)) t ∙ h.next_is p t
        | inr f ↦
            cond-false (has (loc a) p) next (get_or old.rows p (blank_rows 0)) f ∙ row-at alphabet w old.rows before.rows p (blank_rows 0) l
            ∙ rows-kept loc (length alphabet.letters) alphabet.processes w a dist.located before.rows.word small p f
      ]

  -- what a participant heard of q is what it knows
  heard-after : (p q : ℕ) → q < alphabet.processes → has (loc a) p ≡ true →
      get_or heard q None ≡ known_after loc (w ++ a ∷ []) (slice_index (values ++ value ∷ [])) p q
  heard-after p q l t =
      let b = best_of alphabet w a q in
      h.heard_is q l ∙ elim (cases_Bool (has (loc a) q)) [
        | inl u ↦
            cond-true (has (loc a) q) (Some value) (known_in old.known b q) u
            ∙ sym (knows-own loc (length alphabet.letters) alphabet.processes dist.located w a small values value before.one_each p q t u)
        | inr g ↦
            cond-false (has (loc a) q) (Some value) (known_in old.known b q) g
            ∙ before.known b q (best-below loc (length alphabet.letters) alphabet.processes dist.located w a small values value before.one_each q) l
            ∙ sym (knows-best loc (length alphabet.letters) alphabet.processes dist.located w a small values value before.one_each p q t g)
      ]

  -- what p knows of q
  known-after : (p q : ℕ) → p < alphabet.processes → q < alphabet.processes →
      known_in new.known p q ≡ known_after loc (w ++ a ∷ []) (slice_index (values ++ value ∷ [])) p q
  known-after p q lp lq =
      ap (λ r. get_or r q None) (h.known p lp) ∙ elim (cases_Bool (has (loc a) p)) [
        | inl t ↦ ap (λ r. get_or r q None) (cond-true (has (loc a) p) heard (get_or old.known p []) t) ∙ heard-after p q lq t
        | inr f ↦
            ap (λ r. get_or r q None) (cond-false (has (loc a) p) heard (get_or old.known p []) f) ∙ before.known p q lp lq
            ∙ sym (knows-kept loc (length alphabet.letters) alphabet.processes dist.located w a small values value before.one_each p q f)
      ]

  -- the circle after a meeting
  pub circle-after : IsCircleAfter alphabet (w ++ a ∷ []) (values ++ value ∷ []) new
  circle-after =
      record {
        processes = h.processes;
        one_each = length-append values (value ∷ []) ∙ ap (λ k. k + 1) before.one_each ∙ sym (length-append w (a ∷ []));
        rows = record {
          word = word-next (length alphabet.letters) w a before.rows.word small;
          rows = fill_by_all (rows_after loc alphabet.processes (w ++ a ∷ [])) new.rows alphabet.processes (blank_rows 0) h.size row-after;
        };
        known = known-after;
      }
