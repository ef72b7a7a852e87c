-- The next local state of a letter's participants, made of the numbers of their local states alone.
use Rattle.std.proofs.Common.{◌≡◌, ℕ, ◌^◌, ◌<◌, Bool, true, false, inl, inr, List, [], ◌∷◌, ◌++◌, length, if◌then◌else◌, sym, ap, ◌∙◌}
use Rattle.std.specs.List.{range_with_len, list_any}
use Rattle.std.proofs.lemmas.Bool.{cases_Bool, cond-true, cond-false}
use Rattle.za_alpha.specs.Words.{has, IsWord}
use Rattle.za_order.specs.Labels.{label}
use Rattle.za_order.specs.Locals.{Ids, ids, residue_word}
use Rattle.za_order.proofs.NextLetter.{length-next}
use Rattle.za_order.proofs.Ranges.{range-below}
use Rattle.za_dfa.specs.Automata.{Automaton, walk}
use Rattle.za_gossip.specs.Rows.{rows_of}
use Rattle.za_gossip.specs.Updates.{updated, new_label}
use Rattle.za_gossip.proofs.Updates.{rows-after, label-after}
use Rattle.za_residue.specs.Functions.{functions_by, in_set}
use Rattle.za_residue.specs.Laws.{composed}
use Rattle.za_residue.proofs.AfterWords.{functions-same}
use Rattle.za_residue.proofs.NextResidues.{participants_compose, participants_reset}
use Rattle.za_residue.proofs.JoinedViews.{residues_decide}
use Rattle.za_local.specs.Locals.{LocalState, local_state}
use Rattle.za_local.proofs.LocalLaws.{same-locals}
use Rattle.za_theorem.specs.Languages.{IsDiamondAutomaton}
use Rattle.za_theorem.specs.Codes.{local_numbers}
use Rattle.za_theorem.proofs.Kept.{known_in, value_in, known-local, value-local}
use Rattle.za_theorem.proofs.Agreement.{updated-same, label-same}
use Rattle.za_theorem.proofs.Composed.{composed_by, newest-there, composed-same}

-- the numbers of entries of each process
abbrev pub known_of : ℕ → (ℕ → List ℕ) → ℕ → Ids
known_of n numbers x = known_in n (numbers x)

-- and the values of its residues
abbrev pub value_of : ℕ → ℕ → (ℕ → List ℕ) → ℕ → ℕ → ℕ → ℕ
value_of n k numbers x m q = value_in n k (numbers x) m q

-- where the participants xs lead from q, with the set m
abbrev pub turned : ℕ → Automaton → (ℕ → List ℕ) → List ℕ → (ℕ → Bool) → ℕ → ℕ
turned n d numbers xs set q = composed_by n (known_of n numbers) (value_of n d.states numbers) xs set (length xs) q

-- the next local state
abbrev pub next_local : (ℕ → List ℕ) → ℕ → Automaton → ℕ → (ℕ → List ℕ) → LocalState
next_local loc n d a numbers = record {
  gossip = rows_of n (updated n (loc a) a (known_of n numbers));
  residues = functions_by n d.states (λ m q. if list_any (in_set m) (loc a) then q else d.step (turned n d numbers (loc a) (in_set m) q) a);
}

module _ (loc : ℕ → List ℕ) (n : ℕ) (d : Automaton) (whole : IsDiamondAutomaton loc n d) (w : List ℕ) (word : IsWord d.letters w) where
  module _ (numbers : ℕ → List ℕ) (xs : List ℕ) (below : (x : ℕ) → has xs x ≡ true → x < n)
      (given : (x : ℕ) → has xs x ≡ true → numbers x ≡ local_numbers (local_state loc n d w x)) where
    agree : (x : ℕ) → has xs x ≡ true → known_of n numbers x ≡ ids loc n w (length w) x
    agree x h = ap (known_in n) (given x h) ∙ known-local loc n d w whole.alphabet word x

    values : (x m q : ℕ) → has xs x ≡ true → m < 2 ^ n → q < d.states →
        value_of n d.states numbers x m q ≡ walk d.step q (residue_word loc n w (length w) x (in_set m))
    values x m q h lm lq = ap (λ l. value_in n d.states l m q) (given x h) ∙ value-local loc n d w whole.alphabet word x m q lm lq

    -- in turn they lead where their residues lead
    turned-same : (set : ℕ → Bool) (q : ℕ) → q < d.states → turned n d numbers xs set q ≡ composed loc d n w xs set q
    turned-same set q l = composed-same loc n d w whole.alphabet whole.total word xs below (known_of n numbers)
        (value_of n d.states numbers) agree values set q l

  -- the next local state of the participants is made of theirs
  module _ (a : ℕ) (small : a < d.letters) (numbers : ℕ → List ℕ)
      (given : (x : ℕ) → has (loc a) x ≡ true → numbers x ≡ local_numbers (local_state loc n d w x)) where
    below : (x : ℕ) → has (loc a) x ≡ true → x < n
    below x h = whole.alphabet.below a x small h

    pub next-is : (p : ℕ) → has (loc a) p ≡ true → next_local loc n d a numbers ≡ local_state loc n d (w ++ a ∷ []) p
    next-is p h =
        let wa : List ℕ = w ++ a ∷ [] in
        let known = known_of n numbers in
        let lead = λ (m q : ℕ). turned n d numbers (loc a) (in_set m) q in
        same-locals (next_local loc n d a numbers) (local_state loc n d wa p)
        (ap (rows_of n) (updated-same n (loc a) known (ids loc n w (length w)) (agree numbers (loc a) below given)
        (newest-there loc n d w whole.alphabet whole.total word (loc a) below p h) a p h (below p h))
        ∙ rows-after loc d.letters n w a whole.alphabet word small p h)
        (functions-same n d.states
        (λ m q. if list_any (in_set m) (loc a) then q else d.step (lead m q) a)
        (λ m q. walk d.step q (residue_word loc n wa (length wa) p (in_set m)))
        (λ m q l.
        let long = ap (λ k. residue_word loc n wa k p (in_set m)) (length-next w a) in
        elim (cases_Bool (list_any (in_set m) (loc a))) [
          | inl t ↦
              cond-true (list_any (in_set m) (loc a)) q (d.step (lead m q) a) t
              ∙ sym (ap (walk d.step q) (long ∙ participants_reset loc d.letters n w a p (in_set m) whole.alphabet word small h t))
          | inr f ↦
              cond-false (list_any (in_set m) (loc a)) q (d.step (lead m q) a) f
              ∙ ap (λ r. d.step r a) (turned-same numbers (loc a) below given (in_set m) q l)
              ∙ sym (ap (walk d.step q) long ∙ participants_compose loc n d w a p (in_set m) q whole.alphabet whole.total whole.diamonds word small l h f)
        ]))

    pub label-is : new_label n (loc a) a (known_of n numbers) ≡ label loc n (w ++ a ∷ []) (length w)
    label-is =
        let p = whole.alphabet.some a small in
        label-same n (loc a) (known_of n numbers) (ids loc n w (length w)) (agree numbers (loc a) below given)
        (newest-there loc n d w whole.alphabet whole.total word (loc a) below p.0 p.1) a p.0 p.1 (below p.0 p.1)
        ∙ label-after loc d.letters n w a whole.alphabet word small

  -- where the word leads is made of the local states of all processes
  pub verdict-is : (numbers : ℕ → List ℕ) → ((x : ℕ) → x < n → numbers x ≡ local_numbers (local_state loc n d w x)) →
      turned n d numbers (range_with_len 0 n) (λ y. false) d.start ≡ walk d.step d.start w
  verdict-is numbers given =
      turned-same numbers (range_with_len 0 n) (λ x h. range-below n x h) (λ x h. given x (range-below n x h)) (λ y. false) d.start whole.total.starts
      ∙ residues_decide loc n d w d.start whole.alphabet whole.total whole.diamonds word whole.total.starts
