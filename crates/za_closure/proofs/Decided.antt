-- A language is closed or has a least break: the diamonds of its minimal automaton are searched.
use Rattle.std.proofs.Common.{◌≡◌, ℕ, ◌<◌, true, false, ◌⊎◌, inl, inr, List, length, sym, ap, subst, ◌∙◌, arith}
use Rattle.std.proofs.lemmas.Bool.{cases_eq, cases_lt, cases_Bool}
use Rattle.za_alpha.specs.Alphabet.{DistributedAlphabet, loc_of}
use Rattle.za_alpha.specs.Words.{independent}
use Rattle.za_dfa.specs.Automata.{Automaton, IsTotal, HasDiamonds}
use Rattle.za_dfa.specs.Diamonds.{IsBrokenAt, IsFirstBroken}
use Rattle.za_dfa.specs.Private.Diamonds.{IsFirstRight, IsFirstLeft}
use Rattle.za_dfa.specs.Tables.{CompleteDfa, automaton_of}
use Rattle.za_dfa.proofs.DiamondLemmas.{diamonds_of_none}
use Rattle.za_dfa.proofs.TableLemmas.{total_of_complete}
use Rattle.za_min.specs.Minimal.{word_at, IsMinimalOf}
use Rattle.za_min.proofs.Existence.{first_of, least_apart, minimal_dfas_exist}
use Rattle.za_closure.specs.Breaks.{Break, IsLeastBreak}
use Rattle.za_closure.specs.Laws.{ClosedOrBroken}
use Rattle.za_closure.proofs.BreakLemmas.{first-is-least, least-moves}
use Rattle.za_closure.proofs.CloseSteps.{closed_of_diamonds}

module _ (loc : ℕ → List ℕ) (d : Automaton) where
  -- a diamond is broken or not
  broken_or_not : (q a b : ℕ) → IsBrokenAt loc d q a b ⊎ ¬ IsBrokenAt loc d q a b
  broken_or_not q a b = elim (cases_lt a b) [
    | inr le ↦ inr (λ k. let order = k.order in omega arith)
    | inl order ↦ elim (cases_lt b d.letters) [
      | inr le ↦ inr (λ k. let letter = k.letter in omega arith)
      | inl letter ↦ elim (cases_Bool (independent loc a b)) [
        | inr f ↦ inr (λ k. let t : independent loc a b ≡ true = k.apart in let both : true ≡ false = sym t ∙ f in cc)
        | inl apart ↦ elim (cases_eq (d.step (d.step q a) b) (d.step (d.step q b) a)) [
          | inl same ↦ inr (λ k. k.parted same)
          | inr parted ↦ inl (record { order = order; letter = letter; apart = apart; parted = parted })
        ]
      ]
    ]
  ]

  -- the first of a letter at a state
  first_right : (q a : ℕ) → ((b : ℕ) × IsFirstRight loc d q a b) ⊎ ((b : ℕ) → ¬ IsBrokenAt loc d q a b)
  first_right q a = elim (first_of (IsBrokenAt loc d q a) (λ b. ¬ IsBrokenAt loc d q a b) d.letters (broken_or_not q a)) [
    | inl r ↦ inl (r.0, record { is = r.2; least_right = r.3 })
    | inr none ↦ inr (λ b k. none b k.letter k)
  ]

  -- of a state
  first_left : (q : ℕ) → ((a b : ℕ) × IsFirstLeft loc d q a b) ⊎ ((a b : ℕ) → ¬ IsBrokenAt loc d q a b)
  first_left q = elim (first_of (λ a. (b : ℕ) × IsFirstRight loc d q a b) (λ a. (b : ℕ) → ¬ IsBrokenAt loc d q a b) d.letters (first_right q)) [
    | inl r ↦ inl (r.0, r.2.0, record { right = r.2.1; least_left = λ x y l. r.3 x l y })
    | inr none ↦ inr (λ a b k. let order = k.order in let letter = k.letter in none a (omega arith) b k)
  ]

  -- and of all
  first_or_none : ((q a b : ℕ) × IsFirstBroken loc d q a b) ⊎ HasDiamonds loc d
  first_or_none = elim (first_of (λ q. (a b : ℕ) × IsFirstLeft loc d q a b) (λ q. (a b : ℕ) → ¬ IsBrokenAt loc d q a b) d.states first_left) [
    | inl r ↦ inl (
      r.0,
      r.2.0,
      r.2.1,
      record {
        state = r.1;
        is = r.2.2.right.is;
        least_state = λ p x y l. r.3 p l x y;
        least_left = r.2.2.least_left;
        least_right = r.2.2.right.least_right;
      },
    )
    | inr none ↦ inr (diamonds_of_none loc d (λ q a b l. none q l a b))
  ]

-- the first broken diamond of the minimal automaton gives the least break of the language
break_of_first : (dfa minimal : CompleteDfa) → IsMinimalOf minimal dfa → (q a b : ℕ) → IsFirstBroken (loc_of minimal.alphabet) (automaton_of minimal) q a b →
    (k : Break) × IsLeastBreak (loc_of dfa.alphabet) (automaton_of dfa) k
break_of_first dfa minimal of q a b first =
    let d : Automaton = automaton_of minimal in
    let total : IsTotal d = total_of_complete minimal of.complete in
    let order = first.is.order in
    let bl = first.is.letter in
    let al : a < d.letters = omega arith in
    let ql = first.state in
    let v = least_apart d total of.minimal (d.step (d.step q a) b) (d.step (d.step q b) a) (total.steps (d.step q a) b (total.steps q a ql al) bl)
    (total.steps (d.step q b) a (total.steps q b ql bl) al) first.is.parted in
    let k : Break = record { before = word_at of.access q; left = a; right = b; after = v.0 } in
    let least = first-is-least (loc_of minimal.alphabet) d total of.access of.numbered q a b v.0 first v.1 in
    let letters : length minimal.alphabet.letters ≡ length dfa.alphabet.letters = ap (λ x. length x.letters) of.alphabet in
    let moved = least-moves d (automaton_of dfa) letters of.language (loc_of minimal.alphabet) k least in
    (k, subst (λ (x : DistributedAlphabet). IsLeastBreak (loc_of x) (automaton_of dfa) k) of.alphabet moved)

pub closed_or_broken : ClosedOrBroken
closed_or_broken dfa whole =
    let m = minimal_dfas_exist dfa whole in
    elim (first_or_none (loc_of m.0.alphabet) (automaton_of m.0)) [
      | inl r ↦ inr (break_of_first dfa m.0 m.1 r.0 r.1 r.2 r.3)
      | inr diamonds ↦ inl (closed_of_diamonds dfa m.0 m.1 diamonds)
    ]
