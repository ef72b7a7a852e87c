-- Local states are lists of fixed lengths of numbers below fixed bounds, and so each is one number below a bound.
use Rattle.std.proofs.Common.{◌≡◌, ℕ, zero, suc, ◌*◌, ◌/◌, ◌%◌, ◌^◌, ◌<◌, true, ◌==◌, inl, inr, List, [], ◌∷◌, ◌++◌, length, map, flat_map, replicate, Option}
use Rattle.std.proofs.Common.{Some, None, refl, sym, ap, ◌∙◌, arith, eqb-true, subst}
use Rattle.std.specs.List.{range_with_len}
use Rattle.std.proofs.lemmas.Bool.{or_cases}
use Rattle.std.proofs.lemmas.Nat.{mod_below}
use Rattle.std.proofs.lemmas.List.{length-append}
use Rattle.std.proofs.lemmas.List.FromFn.{length-map-range_with_len}
use Rattle.za_alpha.specs.Words.{has, IsAlphabet, IsWord}
use Rattle.za_order.specs.Views.{participants}
use Rattle.za_order.specs.Entries.{primary, secondary, tertiary}
use Rattle.za_order.specs.Labels.{number}
use Rattle.za_order.specs.Locals.{Ids, ids, in_residue, residue_word}
use Rattle.za_order.proofs.Entries.{primary-sound, primary-below, secondary-sound, secondary-below, tertiary-sound, tertiary-below}
use Rattle.za_order.proofs.Numbers.{numbers_are_bounded}
use Rattle.za_order.proofs.Participants.{IsOver, word-over}
use Rattle.za_order.proofs.Sets.{has-here, has-there, has-append, has-map, has-flat_map, any-where}
use Rattle.za_dfa.specs.Automata.{Automaton, IsTotal, walk}
use Rattle.za_dfa.proofs.Diamonds.{walk-below}
use Rattle.za_gossip.specs.Rows.{rows_of}
use Rattle.za_gossip.proofs.RowsOf.{same-rows}
use Rattle.za_residue.proofs.Subwords.{subword-word}
use Rattle.za_residue.proofs.Written.{same-functions}
use Rattle.za_local.specs.Locals.{LocalState, local_state}
use Rattle.za_local.proofs.LocalLaws.{same-locals}
use Rattle.za_residue.specs.Functions.{in_set}
use Rattle.za_theorem.specs.Codes.{AreBelow, entry_count, event_bound, local_bounds, local_numbers, IsLocal, local_code, local_bound}
use Rattle.za_theorem.proofs.Radix.{product, joined-below, joined-same, below-append, product-append, product-replicate}
use Rattle.za_theorem.proofs.Kept.{length-first, length-second, length-third, entries, length-entries}

-- lists of one bound, by what they have
below-by-has : (b n : ℕ) (xs : List ℕ) → length xs ≡ n → ((x : ℕ) → has xs x ≡ true → x < b) → AreBelow (replicate n b) xs
below-by-has b zero [] e h = tt
below-by-has b (suc n) [] e h = absurd (omega arith)
below-by-has b zero (x ∷ xs) e h = absurd (omega arith)
below-by-has b (suc n) (x ∷ xs) e h = (h x (has-here x x xs refl), below-by-has b n xs (omega arith) (λ y k. h y (has-there x y xs k)))

-- numbers by a rule
mapped-below : (f : ℕ → ℕ) (xs : List ℕ) (b : ℕ) → ((x : ℕ) → f x < b) → (v : ℕ) → has (map f xs) v ≡ true → v < b
mapped-below f xs b h v k =
    let x = any-where (λ x. f x == v) xs (sym (has-map f xs v) ∙ k) in
    subst (λ u. u < b) (eqb-true (f x.0) v x.2) (h x.0)

flat-below : (f : ℕ → List ℕ) (xs : List ℕ) (b : ℕ) → ((x v : ℕ) → has (f x) v ≡ true → v < b) → (v : ℕ) → has (flat_map f xs) v ≡ true → v < b
flat-below f xs b h v k =
    let x = any-where (λ x. has (f x) v) xs (sym (has-flat_map f xs v) ∙ k) in h x.0 v x.2

joined-has : (xs ys : List ℕ) (b : ℕ) → ((v : ℕ) → has xs v ≡ true → v < b) → ((v : ℕ) → has ys v ≡ true → v < b) → (v : ℕ) → has (xs ++ ys) v ≡ true → v < b
joined-has xs ys b h k v t = elim (or_cases (has xs v) (has ys v) (sym (has-append xs ys v) ∙ t)) [ inl a ↦ h v a | inr c ↦ k v c ]

module _ (loc : ℕ → List ℕ) (n : ℕ) (d : Automaton) (w : List ℕ) (p : ℕ) (alphabet : IsAlphabet loc d.letters n) (total : IsTotal d)
    (word : IsWord d.letters w) where
  -- numbers of events are bounded
  number-bound : (o : Option ℕ) → ((e : ℕ) → o ≡ Some e → e < length w) → number loc n w o < event_bound d.letters n
  number-bound None h = omega arith
  number-bound (Some e) h = let l = numbers_are_bounded loc d.letters n w e alphabet word (h e refl) in omega arith

  abbrev who : ℕ → List ℕ
  who = participants loc w

  abbrev known : Ids
  known = ids loc n w (length w) p

  abbrev range : List ℕ
  range = range_with_len 0 n

  entries-bound : (v : ℕ) → has (entries n known) v ≡ true → v < event_bound d.letters n
  entries-bound =
      let b : ℕ = event_bound d.letters n in
      joined-has (rows_of n known).primary ((rows_of n known).secondary ++ (rows_of n known).tertiary) b
      (mapped-below known.primary range b
      (λ q. number-bound (primary who (length w) p q) (λ e h. primary-below who (length w) p q e (primary-sound who (length w) p q e h))))
      (joined-has (rows_of n known).secondary (rows_of n known).tertiary b
      (flat-below (λ q. map (known.secondary q) range) range b
      (λ q. mapped-below (known.secondary q) range b
      (λ r. number-bound (secondary who (length w) p q r) (λ e h. secondary-below who (length w) p q r e (secondary-sound who (length w) p q r e h)))))
      (flat-below (λ q. flat_map (λ r. map (known.tertiary q r) range) range) range b
      (λ q. flat-below (λ r. map (known.tertiary q r) range) range b
      (λ r. mapped-below (known.tertiary q r) range b
      (λ s. number-bound (tertiary who (length w) p q r s) (λ e h. tertiary-below who (length w) p q r s e (tertiary-sound who (length w) p q r s e h)))))))

  over : IsOver loc d.letters n w
  over = word-over loc d.letters n w alphabet word

  pub local-is : IsLocal d.letters n d.states (local_state loc n d w p)
  local-is =
      let rule = λ (m q : ℕ). walk d.step q (residue_word loc n w (length w) p (in_set m)) in
      let vs : List ℕ = (local_state loc n d w p).residues.values in
      record {
        primary = length-first n known;
        secondary = length-second n known;
        tertiary = length-third n known;
        processes = refl;
        states = refl;
        numbers = below-append (replicate (entry_count n) (event_bound d.letters n)) (replicate (2 ^ n * d.states) d.states) (entries n known) vs
            (below-by-has (event_bound d.letters n) (entry_count n) (entries n known) (length-entries n known) entries-bound)
            (below-by-has d.states (2 ^ n * d.states) vs (length-map-range_with_len (λ i. rule (i / d.states) (i % d.states)) 0 (2 ^ n * d.states))
            (mapped-below (λ i. rule (i / d.states) (i % d.states)) (range_with_len 0 (2 ^ n * d.states)) d.states
            (λ i. let s = total.starts in walk-below d total (i % d.states) (residue_word loc n w (length w) p (in_set (i / d.states)))
            (mod_below i d.states (omega arith))
            (subword-word loc d.letters n w over (in_residue who n (length w) p (in_set (i / d.states))) (length w) (omega arith)))));
      }

-- local states are numbers below the bound
module _ (letters n k : ℕ) where
  pub code-below : (a : LocalState) → IsLocal letters n k a → local_code letters n k a < local_bound letters n k
  code-below a h =
      let e = product-append (replicate (entry_count n) (event_bound letters n)) (replicate (2 ^ n * k) k)
      ∙ ap (λ v. v * product (replicate (2 ^ n * k) k)) (product-replicate (event_bound letters n) (entry_count n))
      ∙ ap (λ v. event_bound letters n ^ entry_count n * v) (product-replicate k (2 ^ n * k)) in
      subst (λ v. local_code letters n k a < v) e (joined-below (local_bounds letters n k) (local_numbers a) h.numbers)

-- joined lists of equal lengths are the same only if their parts are
split-same : (xs ys us vs : List ℕ) → length xs ≡ length us → xs ++ ys ≡ us ++ vs → (xs ≡ us) × (ys ≡ vs)
split-same [] ys [] vs l e = (refl, e)
split-same [] ys (u ∷ us) vs l e = absurd (omega arith)
split-same (x ∷ xs) ys [] vs l e = absurd (omega arith)
split-same (x ∷ xs) ys (u ∷ us) vs l e =
    let first : x ≡ u = cc in
    let rest : xs ++ ys ≡ us ++ vs = cc in
    let r = split-same xs ys us vs (omega arith) rest in
    (ap (λ v. v ∷ xs) first ∙ ap (λ v. u ∷ v) r.0, r.1)

module _ (letters n k : ℕ) where
  -- and no two are one number
  pub numbers-same : (a b : LocalState) → IsLocal letters n k a → IsLocal letters n k b → local_numbers a ≡ local_numbers b → a ≡ b
  numbers-same a b ha hb e =
      let one : List ℕ = a.gossip.secondary ++ a.gossip.tertiary in
      let two : List ℕ = b.gossip.secondary ++ b.gossip.tertiary in
      let lp = ha.primary ∙ sym hb.primary in
      let ls = ha.secondary ∙ sym hb.secondary in
      let lt = ha.tertiary ∙ sym hb.tertiary in
      let long : length (a.gossip.primary ++ one) ≡ length (b.gossip.primary ++ two) =
      omega (
        arith,
        length-append a.gossip.primary one,
        length-append b.gossip.primary two,
        length-append a.gossip.secondary a.gossip.tertiary,
        length-append b.gossip.secondary b.gossip.tertiary,
      ) in
      let outer = split-same (a.gossip.primary ++ one) a.residues.values (b.gossip.primary ++ two) b.residues.values long e in
      let middle = split-same a.gossip.primary one b.gossip.primary two lp outer.0 in
      let inner = split-same a.gossip.secondary a.gossip.tertiary b.gossip.secondary b.gossip.tertiary ls middle.1 in
      same-locals a b
      (same-rows a.gossip b.gossip middle.0 inner.0 inner.1)
      (same-functions a.residues b.residues (ha.processes ∙ sym hb.processes) (ha.states ∙ sym hb.states) outer.1)

  pub code-same : (a b : LocalState) → IsLocal letters n k a → IsLocal letters n k b → local_code letters n k a ≡ local_code letters n k b → a ≡ b
  code-same a b ha hb e = numbers-same a b ha hb (joined-same (local_bounds letters n k) (local_numbers a) (local_numbers b) ha.numbers hb.numbers e)
