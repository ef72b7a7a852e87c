-- An expression has one table at most: the least words of its values fix the numbers of the states.
use Rattle.std.proofs.Common.{◌≡◌, ℕ, zero, suc, ◌+◌, ◌*◌, ◌/◌, ◌%◌, ◌<◌, ◌≤◌, Bool, true, false, ◌&&◌, cond, inl, inr, List, [], ◌∷◌, ◌++◌, length, get_or}
use Rattle.std.proofs.Common.{refl, sym, ap, subst, ◌∙◌, arith}
use Rattle.std.specs.Prelude.{◌↔◌, nat_lt}
use Rattle.std.proofs.lemmas.Bool.{cases_eq, cases_lt}
use Rattle.std.proofs.lemmas.Bool.Decides.{nat_tests}
use Rattle.std.proofs.lemmas.List.{ext_get_or}
use Rattle.std.proofs.lemmas.List.Elements.{All-nil, All-push}
use Rattle.za_alpha.specs.Alphabet.{DistributedAlphabet}
use Rattle.za_alpha.specs.Words.{IsWord}
use Rattle.za_dfa.specs.Automata.{Automaton, IsTotal, walk, is_accepted}
use Rattle.za_dfa.specs.Tables.{CompleteDfa, automaton_of, step_of, target_at}
use Rattle.za_dfa.proofs.Diamonds.{walk-append, walk-below}
use Rattle.za_dfa.proofs.GridLemmas.{row_of_cell}
use Rattle.za_dfa.proofs.TableLemmas.{total_of_complete}
use Rattle.za_min.specs.Shortlex.{comes_before, IsLeastWord}
use Rattle.za_min.specs.Minimal.{word_at, LeadsTo, IsNumberedBy}
use Rattle.za_min.proofs.Order.{least_word-unique, before-trans, before-not-self}
use Rattle.za_expression.specs.declared.sign.Sign.{Sign}
use Rattle.za_expression.specs.Forms.{is_meant}
use Rattle.za_expression.specs.Values.{HaveSameValue}
use Rattle.za_expression.proofs.Whole.{signs_are_one_form}
use Rattle.za_form.specs.Expressions.{letter_at}
use Rattle.za_form.specs.Automata.{IsValueDfa}

-- ---- lists of words in shortlex order

abbrev AreRising : List (List ℕ) → Type 0
AreRising words = (q r : ℕ) → q < r → r < length words → comes_before (word_at words q) (word_at words r) ≡ true

record IsAmong (words : List (List ℕ)) (w : List ℕ) : Type 0 where
  place : ℕ
  within : place < length words
  is : word_at words place ≡ w

-- a word of one list stands in another that has all its words no earlier
no_earlier : (vs ws : List (List ℕ)) → AreRising vs → AreRising ws → ((q : ℕ) → q < length vs → IsAmong ws (word_at vs q)) →
    (q r : ℕ) → q < length vs → r < length ws → word_at ws r ≡ word_at vs q → q ≤ r
no_earlier vs ws rv rw' among zero r ql rl e = omega arith
no_earlier vs ws rv rw' among (suc q) r ql rl e =
    let m = among q (omega arith) in
    let i = no_earlier vs ws rv rw' among q m.place (omega arith) m.within m.is in
    let up : comes_before (word_at vs q) (word_at vs (suc q)) ≡ true = rv q (suc q) (omega arith) ql in
    elim (cases_lt m.place r) [
      | inl l ↦ omega arith
      | inr ge ↦ absurd (elim (cases_eq r m.place) [
        | inl same ↦
            let one : word_at vs (suc q) ≡ word_at vs q = sym e ∙ ap (word_at ws) same ∙ m.is in
            before-not-self (word_at vs q) (subst (λ w. comes_before (word_at vs q) w ≡ true) one up)
        | inr ne ↦
            let down : comes_before (word_at ws r) (word_at ws m.place) ≡ true = rw' r m.place (omega arith) m.within in
            let back : comes_before (word_at vs (suc q)) (word_at vs q) ≡ true =
            subst (λ w. comes_before w (word_at vs q) ≡ true) e (subst (λ w. comes_before (word_at ws r) w ≡ true) m.is down) in
            before-not-self (word_at vs q) (before-trans (word_at vs q) (word_at vs (suc q)) (word_at vs q) up back)
      ])
    ]

-- so lists with the same words are one, place by place
same_places : (vs ws : List (List ℕ)) → AreRising vs → AreRising ws → ((q : ℕ) → q < length vs → IsAmong ws (word_at vs q)) →
    ((q : ℕ) → q < length ws → IsAmong vs (word_at ws q)) → (q : ℕ) → q < length vs → (q < length ws) × (word_at ws q ≡ word_at vs q)
same_places vs ws rv rw' av aw q l =
    let m = av q l in
    let a = no_earlier vs ws rv rw' av q m.place l m.within m.is in
    let b = no_earlier ws vs rw' rv aw m.place q m.within l (sym m.is) in
    let same : m.place ≡ q = omega arith in
    let within = m.within in
    (omega arith, ap (word_at ws) (sym same) ∙ m.is)

-- ---- automata whose states are the classes of words

-- over m letters, words lead to one state exactly if they are alike, and least words number the states
record HasClasses (m : ℕ) (AreAlike : List ℕ → List ℕ → Type 0) (d : Automaton) (words : List (List ℕ)) : Type 0 where
  letters : d.letters ≡ m
  total : IsTotal d
  classes : (u v : List ℕ) → IsWord m u → IsWord m v → ((walk d.step d.start u ≡ walk d.step d.start v) ↔ AreAlike u v)
  numbered : IsNumberedBy d words

module _ (m : ℕ) (AreAlike : List ℕ → List ℕ → Type 0) where
  own_word : (d : Automaton) (vs : List (List ℕ)) → HasClasses m AreAlike d vs → (w : List ℕ) → IsWord m w → IsWord d.letters w
  own_word d vs h w k = subst (λ n. IsWord n w) (sym h.letters) k

  any_word : (d : Automaton) (vs : List (List ℕ)) → HasClasses m AreAlike d vs → (w : List ℕ) → IsWord d.letters w → IsWord m w
  any_word d vs h w k = subst (λ n. IsWord n w) h.letters k

  rising : (d : Automaton) (vs : List (List ℕ)) → HasClasses m AreAlike d vs → AreRising vs
  rising d vs h q r l k = let each = h.numbered.one_each in h.numbered.rising q r l (omega arith)

  -- the least words of one are those of the other
  among : (d e : Automaton) (vs ws : List (List ℕ)) → HasClasses m AreAlike d vs → HasClasses m AreAlike e ws → (q : ℕ) → q < length vs →
      IsAmong ws (word_at vs q)
  among d e vs ws hd he q l =
      let each = hd.numbered.one_each in
      let each' = he.numbered.one_each in
      let ql : q < d.states = omega arith in
      let w : List ℕ = word_at vs q in
      let a = hd.numbered.access q ql in
      let hw = any_word d vs hd w a.holds.word in
      let r : ℕ = walk e.step e.start w in
      let rl : r < e.states = walk-below e he.total e.start w he.total.starts (own_word e ws he w hw) in
      let mine : IsLeastWord (LeadsTo e r) w = record {
        holds = record { word = own_word e ws he w hw; there = refl };
        least = λ x p.
            let hx = any_word e ws he x p.word in
            a.least x (record { word = own_word d vs hd x hx; there = (hd.classes x w hx hw).1 ((he.classes x w hx hw).0 p.there) ∙ a.holds.there });
      } in
      record { place = r; within = omega arith; is = least_word-unique (LeadsTo e r) (word_at ws r) w (he.numbered.access r rl) mine }

  module _ (d e : Automaton) (vs ws : List (List ℕ)) (hd : HasClasses m AreAlike d vs) (he : HasClasses m AreAlike e ws) where
    same_word : (q : ℕ) → q < d.states → (q < e.states) × (word_at ws q ≡ word_at vs q)
    same_word q ql =
        let each = hd.numbered.one_each in
        let each' = he.numbered.one_each in
        let s = same_places vs ws (rising d vs hd) (rising e ws he) (among d e vs ws hd he) (among e d ws vs he hd) q (omega arith) in
        let l = s.0 in
        (omega arith, s.1)

    -- words lead to states of one number
    same_walk : (u : List ℕ) → IsWord m u → walk e.step e.start u ≡ walk d.step d.start u
    same_walk u hu =
        let q : ℕ = walk d.step d.start u in
        let ql : q < d.states = walk-below d hd.total d.start u hd.total.starts (own_word d vs hd u hu) in
        let o = same_word q ql in
        let a = hd.numbered.access q ql in
        let w : List ℕ = word_at vs q in
        let hw = any_word d vs hd w a.holds.word in
        let there : walk e.step e.start w ≡ q = ap (walk e.step e.start) (sym o.1) ∙ (he.numbered.access q o.0).holds.there in
        (he.classes u w hu hw).1 ((hd.classes u w hu hw).0 (sym a.holds.there)) ∙ there

    same_start : d.start ≡ e.start
    same_start = sym (same_walk [] (All-nil (λ c. c < m)))

    states_le : d.states ≤ e.states
    states_le = elim (cases_lt e.states d.states) [
      | inl l ↦ absurd (let k = (same_word e.states l).0 in omega arith)
      | inr ge ↦ ge
    ]

    same_step : (q a : ℕ) → q < d.states → a < m → d.step q a ≡ e.step q a
    same_step q a ql al =
        let k = hd.numbered.access q ql in
        let w : List ℕ = word_at vs q in
        let hw = any_word d vs hd w k.holds.word in
        let longer = same_walk (w ++ a ∷ []) (All-push (λ c. c < m) w a hw al) in
        let at : walk e.step e.start w ≡ q = same_walk w hw ∙ k.holds.there in
        sym (walk-append d.step d.start w (a ∷ []) ∙ ap (λ x. d.step x a) k.holds.there) ∙ sym longer ∙
        (walk-append e.step e.start w (a ∷ []) ∙ ap (λ x. e.step x a) at)

    same_accepts : ((w : List ℕ) → IsWord m w → is_accepted d w ≡ is_accepted e w) → (q : ℕ) → q < d.states → d.accepts q ≡ e.accepts q
    same_accepts language q ql =
        let k = hd.numbered.access q ql in
        let w : List ℕ = word_at vs q in
        let hw = any_word d vs hd w k.holds.word in
        ap d.accepts (sym k.holds.there) ∙ language w hw ∙ ap e.accepts (same_walk w hw ∙ k.holds.there)

-- ---- tables

-- where a letter leads is an entry
step_is_target : (d : CompleteDfa) (q a : ℕ) → q < d.states → a < length d.alphabet.letters → step_of d q a ≡ target_at d q a
step_is_target d q a ql al =
    let here : (nat_lt q d.states && nat_lt a (length d.alphabet.letters)) ≡ true = grind (arith, nat_tests) in
    ap (λ known. cond known (target_at d q a) q) here

cell_of : (i m : ℕ) → i / m * m + i % m ≡ i
cell_of i m = omega arith

module _ (alphabet : DistributedAlphabet) (signs : List Sign) (d e : CompleteDfa) (hd : IsValueDfa alphabet signs d) (he : IsValueDfa alphabet signs e) where
  abbrev letters : ℕ
  letters = length alphabet.letters

  abbrev AreAlike : List ℕ → List ℕ → Type 0
  AreAlike u v = HaveSameValue (letter_at signs) hd.form u v

  one_form : he.form ≡ hd.form
  one_form = signs_are_one_form signs he.form hd.form he.is hd.is

  first : HasClasses letters AreAlike (automaton_of d) hd.access
  first = record {
    letters = ap (λ (a : DistributedAlphabet). length a.letters) hd.same;
    total = total_of_complete d hd.complete;
    classes = hd.values;
    numbered = hd.numbered;
  }

  second : HasClasses letters AreAlike (automaton_of e) he.access
  second = record {
    letters = ap (λ (a : DistributedAlphabet). length a.letters) he.same;
    total = total_of_complete e he.complete;
    classes = λ u v hu hv.
        subst (λ f. (walk (step_of e) e.start u ≡ walk (step_of e) e.start v) ↔ HaveSameValue (letter_at signs) f u v) one_form (he.values u v hu hv);
    numbered = he.numbered;
  }

  language : (w : List ℕ) → IsWord letters w → is_accepted (automaton_of d) w ≡ is_accepted (automaton_of e) w
  language w hw = hd.language w hw ∙ ap (λ f. is_meant (letter_at signs) f w) (sym one_form) ∙ sym (he.language w hw)

  states : d.states ≡ e.states
  states =
      let a = states_le letters AreAlike (automaton_of d) (automaton_of e) hd.access he.access first second in
      let b = states_le letters AreAlike (automaton_of e) (automaton_of d) he.access hd.access second first in omega arith

  accepting : d.accepting ≡ e.accepting
  accepting =
      let same = states in
      let long = hd.complete.accepting_length in
      let long' = he.complete.accepting_length in
      ext_get_or false d.accepting e.accepting (omega arith) (λ q l.
      same_accepts letters AreAlike (automaton_of d) (automaton_of e) hd.access he.access first second language q (omega arith))

  targets : d.targets ≡ e.targets
  targets =
      let same = states in
      let ld : length d.alphabet.letters ≡ letters = first.letters in
      let le : length e.alphabet.letters ≡ letters = second.letters in
      let td : length d.targets ≡ d.states * letters = hd.complete.targets_length ∙ ap (λ n. d.states * n) ld in
      let te : length e.targets ≡ d.states * letters = he.complete.targets_length ∙ ap (λ n. e.states * n) le ∙ ap (λ n. n * letters) (sym same) in
      ext_get_or 0 d.targets e.targets (td ∙ sym te) (λ i l.
      let at = row_of_cell i d.states letters (omega arith) in
      let q : ℕ = i / letters in
      let a : ℕ = i % letters in
      let ql : q < d.states = at.0 in
      let al : a < letters = at.1 in
      let qe : q < e.states = omega arith in
      let cell : q * letters + a ≡ i = cell_of i letters in
      let left : target_at d q a ≡ get_or d.targets i 0 = ap (λ n. get_or d.targets (q * n + a) 0) ld ∙ ap (λ k. get_or d.targets k 0) cell in
      let right : target_at e q a ≡ get_or e.targets i 0 = ap (λ n. get_or e.targets (q * n + a) 0) le ∙ ap (λ k. get_or e.targets k 0) cell in
      let step = same_step letters AreAlike (automaton_of d) (automaton_of e) hd.access he.access first second q a ql al in
      sym left ∙ sym (step_is_target d q a ql (omega arith)) ∙ step ∙ step_is_target e q a qe (omega arith) ∙ right)

  pub one_table : d ≡ e
  one_table =
      let of : DistributedAlphabet → ℕ → ℕ → List Bool → List ℕ → CompleteDfa =
      λ a n s bs ts. record { alphabet = a; states = n; start = s; accepting = bs; targets = ts } in
      ap (λ a. of a d.states d.start d.accepting d.targets) (hd.same ∙ sym he.same)
      ∙ ap (λ n. of e.alphabet n d.start d.accepting d.targets) states
      ∙ ap (λ s. of e.alphabet e.states s d.accepting d.targets)
      (same_start letters AreAlike (automaton_of d) (automaton_of e) hd.access he.access first second)
      ∙ ap (λ bs. of e.alphabet e.states e.start bs d.targets) accepting
      ∙ ap (λ ts. of e.alphabet e.states e.start e.accepting ts) targets
