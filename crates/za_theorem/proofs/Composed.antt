-- What participants do in turn, by the numbers that they keep.
use Rattle.std.proofs.Common.{◌≡◌, ℕ, zero, suc, ◌^◌, ◌<◌, ◌≤◌, Bool, true, List, length, take, slice_index, refl, sym, ap, subst, ◌∙◌, arith}
use Rattle.za_alpha.specs.Words.{has, IsAlphabet, IsWord}
use Rattle.za_order.specs.Views.{participants}
use Rattle.za_order.specs.Locals.{Ids, ids, in_residue, residue_word}
use Rattle.za_order.proofs.Participants.{IsOver, word-over}
use Rattle.za_order.proofs.LatestNews.{newest-some, best-newest}
use Rattle.za_dfa.specs.Automata.{Automaton, IsTotal, walk}
use Rattle.za_dfa.proofs.Diamonds.{walk-below}
use Rattle.za_gossip.specs.Updates.{newest}
use Rattle.za_gossip.proofs.Numbers.{newest_is_best}
use Rattle.za_residue.specs.Laws.{in_turn, omitted, composed}
use Rattle.za_residue.proofs.Inputs.{residue-of-set}
use Rattle.za_residue.proofs.Subwords.{subword-word}
use Rattle.za_residue.specs.Functions.{in_set}
use Rattle.za_theorem.proofs.SetNumbers.{set_number, set_number-below, in-set_number}
use Rattle.za_theorem.proofs.Agreement.{has-at, has-first, omitted_by, omitted-same}
use Rattle.za_theorem.proofs.SharedEntries.{omitted-shared}

-- from q through the functions of xs, in turn, each for what is left out of it
abbrev pub composed_by : ℕ → (ℕ → Ids) → (ℕ → ℕ → ℕ → ℕ) → List ℕ → (ℕ → Bool) → ℕ → ℕ → ℕ
composed_by n known value xs set count q =
    in_turn (λ i. λ q. value (slice_index xs i) (set_number n (omitted_by n known xs set (take i xs) (slice_index xs i))) q) count q

module _ (loc : ℕ → List ℕ) (n : ℕ) (d : Automaton) (w : List ℕ) (alphabet : IsAlphabet loc d.letters n) (total : IsTotal d) (word : IsWord d.letters w)
    (xs : List ℕ)
    (below : (x : ℕ) → has xs x ≡ true → x < n) where
  abbrev who : ℕ → List ℕ
  who = participants loc w

  abbrev known : ℕ → Ids
  known = ids loc n w (length w)

  -- the newest of xs is one of them
  pub newest-there : (x : ℕ) → has xs x ≡ true → (r : ℕ) → has xs (newest n xs known r) ≡ true
  newest-there x h r =
      let some = newest-some who (length w) xs r x h in
      ap (has xs) (newest_is_best loc d.letters n w xs r alphabet word) ∙ (best-newest who (length w) n xs r some.0 (below some.0 some.1.among) some.1).among

  module _ (before : ℕ → Ids) (value : ℕ → ℕ → ℕ → ℕ) (agree : (x : ℕ) → has xs x ≡ true → before x ≡ known x)
      (values : (x m q : ℕ) → has xs x ≡ true → m < 2 ^ n → q < d.states → value x m q ≡ walk d.step q (residue_word loc n w (length w) x (in_set m)))
      (set : ℕ → Bool) where
    abbrev left : ℕ → ℕ → Bool
    left i = omitted who n (length w) xs set (take i xs) (slice_index xs i)

    turn-at : (i q : ℕ) → i < length xs → q < d.states →
        value (slice_index xs i) (set_number n (omitted_by n before xs set (take i xs) (slice_index xs i))) q
        ≡ walk d.step q (residue_word loc n w (length w) (slice_index xs i) (left i))
    turn-at i q l m =
        let x : ℕ = slice_index xs i in
        let here = has-at xs i l in
        let own : ℕ → Bool = omitted_by n before xs set (take i xs) x in
        values x (set_number n own) q here (set_number-below n own) m
        ∙ ap (walk d.step q)
        (residue-of-set loc n w (length w) x (in_set (set_number n own)) (left i)
        (λ y k. in-set_number n own y k
        ∙ omitted-same n xs before known agree (newest-there x here) set (take i xs) x y (λ z h. has-first xs i z h) here
        ∙ omitted-shared loc d.letters n w alphabet word xs set (take i xs) x y))

    over : IsOver loc d.letters n w
    over = word-over loc d.letters n w alphabet word

    turns : (q k : ℕ) → q < d.states → k ≤ length xs →
        (composed_by n before value xs set k q ≡ in_turn (λ i. λ q. walk d.step q (residue_word loc n w (length w) (slice_index xs i) (left i))) k q)
        × (composed_by n before value xs set k q < d.states)
    turns q zero l m = (refl, l)
    turns q (suc k) l m =
        let rest = turns q k l (omega arith) in
        let r : ℕ = composed_by n before value xs set k q in
        let v : List ℕ = residue_word loc n w (length w) (slice_index xs k) (left k) in
        let here = turn-at k r (omega arith) rest.1 in
        let P : ℕ → Type 0 = λ q. q < d.states in (
          here ∙ ap (λ q. walk d.step q v) rest.0,
          subst P (sym here)
              (walk-below d total r v rest.1
              (subword-word loc d.letters n w over (in_residue who n (length w) (slice_index xs k) (left k)) (length w) (omega arith))),
        )

    pub composed-same : (q : ℕ) → q < d.states → composed_by n before value xs set (length xs) q ≡ composed loc d n w xs set q
    composed-same q l = (turns q (length xs) l (omega arith)).0

    pub composed-below : (q : ℕ) → q < d.states → composed_by n before value xs set (length xs) q < d.states
    composed-below q l = (turns q (length xs) l (omega arith)).1
