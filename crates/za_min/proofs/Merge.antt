-- States that no word tells apart are merged without a change of the language.
use Rattle.std.proofs.Common.{◌≡◌, ◌≢◌, ℕ, ◌<◌, ◌≤◌, List, [], ◌∷◌, slice_index, refl, sym, ap, ◌∙◌, arith}
use Rattle.std.proofs.lemmas.List.Elements.{All-head, All-tail, All-cons, All-nil}
use Rattle.za_alpha.specs.Words.{IsWord}
use Rattle.za_dfa.specs.Automata.{Automaton, IsTotal, walk, is_accepted}
use Rattle.za_dfa.proofs.Diamonds.{walk-below}
use Rattle.za_min.specs.Minimal.{AreToldApart}
use Rattle.za_min.specs.Private.Rounds.{AreAlike, AreClasses}
use Rattle.za_min.specs.Private.Exploring.{merged, state_of}
use Rattle.za_min.proofs.RoundLemmas.{stable_classes, rounds-le, rounds-own}
use Rattle.za_min.proofs.Split.{split-found, split-least}

module _ (d : Automaton) (total : IsTotal d) (c : List ℕ) (classes : AreClasses d c) where
  -- each class is named by a state of the class
  pub class-below : (q : ℕ) → q < d.states → slice_index c q < d.states
  class-below q l = let le : slice_index c q ≤ q = rw classes.is (rounds-le d classes.round q l) in omega arith

  pub class-own : (q : ℕ) → q < d.states → slice_index c (slice_index c q) ≡ slice_index c q
  class-own q l = rw classes.is (rounds-own d classes.round q l)

  -- states of one class are alike, and alike states are of one class
  class-alike : (q r : ℕ) → q < d.states → r < d.states → slice_index c q ≡ slice_index c r → AreAlike d q r
  class-alike q r ql rl e = (stable_classes d classes.round q r total ql rl classes.stable).0 (rw classes.is at e)

  alike-class : (q r : ℕ) → q < d.states → r < d.states → AreAlike d q r → slice_index c q ≡ slice_index c r
  alike-class q r ql rl alike = rw classes.is ((stable_classes d classes.round q r total ql rl classes.stable).1 alike)

  -- states of two classes are told apart
  pub class-told : (q r : ℕ) → q < d.states → r < d.states → slice_index c q ≢ slice_index c r → AreToldApart d q r
  class-told q r ql rl ne =
      let found = split-found d total classes.round q r ql rl (λ e. ne (rw classes.is e)) in
      (_, (split-least d total found.0 q r found.2).holds)

  pub merged-total : IsTotal (merged d c)
  merged-total = record { starts = class-below d.start total.starts; steps = λ q a ql al. class-below (d.step q a) (total.steps q a ql al) }

  walk-merged : (w : List ℕ) (q : ℕ) → q < d.states → IsWord d.letters w → walk (merged d c).step (slice_index c q) w ≡ slice_index c (walk d.step q w)
  walk-merged [] q l h = refl
  walk-merged (a ∷ w) q l h =
      let al = All-head (λ b. b < d.letters) a w h in
      let n = slice_index c q in
      let nl = class-below q l in
      let alike : AreAlike d (d.step n a) (d.step q a) = λ v k. class-alike n q nl l (class-own q l) (a ∷ v) (All-cons (λ b. b < d.letters) a v al k) in
      let e = alike-class (d.step n a) (d.step q a) (total.steps n a nl al) (total.steps q a l al) alike in
      ap (λ x. walk (merged d c).step x w) e ∙ walk-merged w (d.step q a) (total.steps q a l al) (All-tail (λ b. b < d.letters) a w h)

  accepts-merged : (w : List ℕ) (q : ℕ) → q < d.states → IsWord d.letters w →
      d.accepts (walk (merged d c).step (slice_index c q) w) ≡ d.accepts (walk d.step q w)
  accepts-merged w q l h =
      let r = walk d.step q w in
      let rl = walk-below d total q w l h in
      ap d.accepts (walk-merged w q l h) ∙ class-alike (slice_index c r) r (class-below r rl) rl (class-own r rl) [] (All-nil (λ b. b < d.letters))

  -- the same words are accepted
  pub merged-accepts : (w : List ℕ) → IsWord d.letters w → is_accepted (merged d c) w ≡ is_accepted d w
  merged-accepts w h = accepts-merged w d.start total.starts h

  -- a word leads to a state that names its class
  pub merged-own : (w : List ℕ) → IsWord d.letters w → (state_of (merged d c) w < d.states)
      × (slice_index c (state_of (merged d c) w) ≡ state_of (merged d c) w)
  merged-own w h =
      let e = walk-merged w d.start total.starts h in
      let l = walk-below d total d.start w total.starts h in
      (rw e (class-below (walk d.step d.start w) l), ap (slice_index c) e ∙ class-own (walk d.step d.start w) l ∙ sym e)

  -- two such states are told apart
  pub merged-told : (q r : ℕ) → q < d.states → r < d.states → slice_index c q ≡ q → slice_index c r ≡ r → q ≢ r → AreToldApart (merged d c) q r
  merged-told q r ql rl qo ro ne =
      let w = class-told q r ql rl (λ e. ne (sym qo ∙ e ∙ ro)) in
      let eq : d.accepts (walk (merged d c).step q w.0) ≡ d.accepts (walk d.step q w.0) = ap (λ x. d.accepts (walk (merged d c).step x w.0)) (sym qo)
      ∙ accepts-merged w.0 q ql w.1.word in
      let er : d.accepts (walk (merged d c).step r w.0) ≡ d.accepts (walk d.step r w.0) = ap (λ x. d.accepts (walk (merged d c).step x w.0)) (sym ro)
      ∙ accepts-merged w.0 r rl w.1.word in
      (w.0, record { word = w.1.word; apart = λ e. w.1.apart (sym eq ∙ e ∙ er) })
