-- Steps of the word that tells two states apart as it is read off the rounds.
use Rattle.std.proofs.Common.{◌≡◌, ℕ, suc, ◌<◌, List, [], ◌∷◌, ◌++◌, length, slice_index, get_or, sym, ap, subst, ◌∙◌, arith, append_assoc}
use Rattle.std.proofs.lemmas.List.{get_or_read}
use Rattle.za_alpha.specs.Search.{least}
use Rattle.za_dfa.specs.Automata.{Automaton, IsTotal}
use Rattle.za_dfa.specs.Tables.{CompleteDfa, automaton_of}
use Rattle.za_dfa.proofs.TableLemmas.{total_of_complete}
use Rattle.za_min.specs.Private.Rounds.{AreAlike, rounds, splits, split_word, AreRoundsOf, IsSplit}
use Rattle.za_min.proofs.RoundLemmas.{stable_classes, length-rounds}
use Rattle.za_min.proofs.RoundSteps.{row-is, rows-long}
use Rattle.za_min.proofs.Split.{split-next}

module _ (dfa : CompleteDfa) (rows : List (List ℕ)) (r : AreRoundsOf dfa rows) where
  -- what is read at a place of the rows is the classes of its round
  pub row-read : (k : ℕ) (c : List ℕ) → k < length rows → c ≡ get_or rows k c → c ≡ rounds (automaton_of dfa) k
  row-read k c l is = get_or_read rows k c l is [] ∙ row-is (automaton_of dfa) rows r.rounds k l

  pub row-length : (k : ℕ) (c : List ℕ) → k < length rows → c ≡ get_or rows k c → length c ≡ dfa.states
  row-length k c l is = ap length (row-read k c l is) ∙ length-rounds (automaton_of dfa) k

  pub row-at : (k q x : ℕ) (c : List ℕ) → k < length rows → c ≡ get_or rows k c → x ≡ slice_index c q → x ≡ slice_index (rounds (automaton_of dfa) k) q
  row-at k q x c l is e = e ∙ ap (λ xs. slice_index xs q) (row-read k c l is)

  -- states that no row tells apart are alike
  pub never-apart : (p q : ℕ) → p < dfa.states → q < dfa.states →
      ((k : ℕ) → k < length rows → slice_index (rounds (automaton_of dfa) k) p ≡ slice_index (rounds (automaton_of dfa) k) q) → AreAlike (automaton_of dfa) p q
  never-apart p q pl ql h =
      let long = rows-long (automaton_of dfa) rows r.rounds in
      (stable_classes (automaton_of dfa) r.rounds.last p q (total_of_complete dfa r.whole) pl ql r.rounds.stable).0 (h r.rounds.last (omega arith))

-- the next letter is one
pub letter-found : (d : Automaton) → IsTotal d → (n m q r a : ℕ) (c : List ℕ) → suc m ≡ n → IsSplit d n q r → c ≡ rounds d m →
    a ≡ least (splits d c q r) d.letters → a < d.letters
letter-found d total n m q r a c e s is ae =
    subst (λ x. x < d.letters) (sym (ae ∙ ap (λ xs. least (splits d xs q r) d.letters) is))
    (split-next d total m q r (subst (λ i. IsSplit d i q r) (sym e) s)).0

-- one letter more
pub record IsLetterMore (d : Automaton) (n left right a : ℕ) (w rest : List ℕ) : Type 0 where
  pub letter : a < d.letters
  pub split : IsSplit d n left right
  pub word : w ++ split_word d n left right ≡ rest

pub letter-more : (d : Automaton) → IsTotal d → (n m q r a left right : ℕ) (w w' rest : List ℕ) → suc m ≡ n → IsSplit d n q r →
    a ≡ least (splits d (rounds d m) q r) d.letters → left ≡ d.step q a → right ≡ d.step r a →
    w' ≡ w ++ a ∷ [] → w ++ split_word d n q r ≡ rest → IsLetterMore d m left right a w' rest
letter-more d total n m q r a left right w w' rest e s ae le re we h =
    let b = least (splits d (rounds d m) q r) d.letters in
    let next = split-next d total m q r (subst (λ i. IsSplit d i q r) (sym e) s) in
    let same : split_word d n q r ≡ b ∷ split_word d m (d.step q b) (d.step r b) = ap (λ i. split_word d i q r) (sym e) in
    let left' : d.step q b ≡ left = ap (d.step q) (sym ae) ∙ sym le in
    let right' : d.step r b ≡ right = ap (d.step r) (sym ae) ∙ sym re in
    record {
      letter = subst (λ x. x < d.letters) (sym ae) next.0;
      split = subst (λ x. IsSplit d m x right) left' (subst (λ y. IsSplit d m (d.step q b) y) right' next.1);
      word = ap (λ u. u ++ split_word d m left right) we
          ∙ append_assoc w (a ∷ []) (split_word d m left right)
          ∙ ap (λ x. w ++ x ∷ split_word d m left right) ae
          ∙ ap (λ x. w ++ b ∷ split_word d m x right) (sym left')
          ∙ ap (λ y. w ++ b ∷ split_word d m (d.step q b) y) (sym right')
          ∙ ap (λ v. w ++ v) (sym same) ∙ h;
    }
