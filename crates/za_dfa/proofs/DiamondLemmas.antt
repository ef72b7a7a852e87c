-- Where no diamond is broken with the lesser letter first, all are there.
use Rattle.std.proofs.Common.{◌≡◌, ℕ, ◌<◌, List, IsTrue, refl, sym, inl, inr, arith}
use Rattle.std.proofs.lemmas.Bool.{cases_eq, cases_order}
use Rattle.za_alpha.specs.Words.{independent}
use Rattle.za_alpha.proofs.Swaps.{apart-flip}
use Rattle.za_dfa.specs.Automata.{Automaton, HasDiamonds}
use Rattle.za_dfa.specs.Diamonds.{IsBrokenAt, IsFirstBroken, BreaksDiamond}

-- two independent letters, the lesser first, lead to one state
ordered_diamond : (loc : ℕ → List ℕ) (d : Automaton) (q a b : ℕ) → ¬ IsBrokenAt loc d q a b → a < b → b < d.letters → IsTrue (independent loc a b) →
    d.step (d.step q a) b ≡ d.step (d.step q b) a
ordered_diamond loc d q a b none order letter apart =
    elim (cases_eq (d.step (d.step q a) b) (d.step (d.step q b) a)) [
      | inl same ↦ same
      | inr parted ↦ absurd (none (record { order = order; letter = letter; apart = apart; parted = parted }))
    ]

-- a letter has a diamond with itself, and independence goes both ways
pub diamonds_of_none : (loc : ℕ → List ℕ) (d : Automaton) → ((q a b : ℕ) → q < d.states → ¬ IsBrokenAt loc d q a b) → HasDiamonds loc d
diamonds_of_none loc d none q a b ql al bl apart =
    elim (cases_order a b) [
      | inl same ↦ rw same refl
      | inr other ↦ elim other [
        | inl less ↦ ordered_diamond loc d q a b (none q a b ql) less bl apart
        | inr more ↦ sym (ordered_diamond loc d q b a (none q b a ql) more al (apart-flip loc a b apart))
      ]
    ]

-- the first broken diamond is one
pub broken_of_first : (loc : ℕ → List ℕ) (d : Automaton) (q a b : ℕ) → IsFirstBroken loc d q a b → BreaksDiamond loc d
broken_of_first loc d q a b first =
    let order = first.is.order in
    let letter = first.is.letter in
    record {
      state = q;
      left = a;
      right = b;
      is_state = first.state;
      is_left = omega arith;
      is_right = letter;
      apart = first.is.apart;
      parted =
          first.is.parted;
    }

-- where a diamond is broken, not all are there
pub no_diamonds_of_broken : (loc : ℕ → List ℕ) (d : Automaton) → BreaksDiamond loc d → HasDiamonds loc d → ⊥
no_diamonds_of_broken loc d broken diamonds =
    broken.parted (diamonds broken.state broken.left broken.right broken.is_state broken.is_left broken.is_right broken.apart)
