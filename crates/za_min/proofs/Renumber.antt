-- The states that words lead to, numbered by the places of these words, are a minimal automaton's.
use Rattle.std.proofs.Common.{◌≡◌, ◌≢◌, ℕ, ◌<◌, ◌≤◌, List, [], ◌∷◌, length, refl, sym, ap, subst, ◌∙◌, arith}
use Rattle.std.proofs.lemmas.List.Elements.{All-head, All-tail}
use Rattle.za_alpha.specs.Words.{IsWord}
use Rattle.za_dfa.specs.Automata.{Automaton, IsTotal, walk}
use Rattle.za_dfa.proofs.Diamonds.{walk-below}
use Rattle.za_min.specs.Minimal.{word_at, AreToldApart, IsMinimal, IsNumberedBy, HaveSameLanguage}
use Rattle.za_min.specs.Private.Exploring.{state_of, AreFound, Renumbers}
use Rattle.za_min.proofs.Found.{same-place, found-least}

module _ (d : Automaton) (words : List (List ℕ)) (done : ℕ) (s : AreFound d done 0 words) (all : length words ≤ done) (e : Automaton)
    (new : Renumbers d words e) where
  word-of-d : (w : List ℕ) → IsWord e.letters w → IsWord d.letters w
  word-of-d w h = subst (λ n. IsWord n w) new.letters h

  word-of-e : (w : List ℕ) → IsWord d.letters w → IsWord e.letters w
  word-of-e w h = subst (λ n. IsWord n w) (sym new.letters) h

  pub renumbered-total : IsTotal e
  renumbered-total =
      let some = s.some in
      let states = new.states in
      let start = new.start in
      let letters = new.letters in
      record {
        starts = omega arith;
        steps = λ k a kl al. let t = (new.steps k a (omega arith) (omega arith)).within in omega arith;
      }

  -- where words lead
  walk-renumbered : (w : List ℕ) (k : ℕ) → k < length words → IsWord d.letters w →
      state_of d (word_at words (walk e.step k w)) ≡ walk d.step (state_of d (word_at words k)) w
  walk-renumbered [] k l h = refl
  walk-renumbered (a ∷ w) k l h =
      let t = new.steps k a l (All-head (λ b. b < d.letters) a w h) in
      walk-renumbered w (e.step k a) t.within (All-tail (λ b. b < d.letters) a w h) ∙ ap (λ x. walk d.step x w) t.there

  walk-start : (w : List ℕ) → IsWord d.letters w → state_of d (word_at words (walk e.step e.start w)) ≡ state_of d w
  walk-start w h =
      ap (λ k. state_of d (word_at words (walk e.step k w))) new.start ∙ walk-renumbered w 0 s.some h ∙ ap (λ u. walk d.step (state_of d u) w) s.first

  walk-within : (w : List ℕ) → IsWord d.letters w → walk e.step e.start w < length words
  walk-within w h = let l = walk-below e renumbered-total e.start w renumbered-total.starts (word-of-e w h) in let states = new.states in omega arith

  -- the same words are accepted
  pub renumbered-accepts : HaveSameLanguage e d
  renumbered-accepts w h =
      let hd = word-of-d w h in
      new.accepts (walk e.step e.start w) (walk-within w hd) ∙ ap d.accepts (walk-start w hd)

  -- each state is where its word leads
  reached-at : (k : ℕ) → k < length words → walk e.step e.start (word_at words k) ≡ k
  reached-at k l =
      let h = s.word k l in
      same-place d words done s all (walk e.step e.start (word_at words k)) k (walk-within (word_at words k) h) l (walk-start (word_at words k) h)

  pub renumbered-numbered : IsNumberedBy e words
  renumbered-numbered =
      let states = new.states in
      record {
        one_each = sym states;
        access = λ k kl.
            let l : k < length words = omega arith in
            record {
              holds = record { word = word-of-e (word_at words k) (s.word k l); there = reached-at k l };
              least = λ v p.
                  let h = word-of-d v p.word in
                  found-least d words done s all k v l h (sym (walk-start v h) ∙ ap (λ j. state_of d (word_at words j)) p.there);
            };
        rising = λ j k jk kl. s.rising j k jk (omega arith);
      }

  -- where any two states of d that words lead to are told apart, the automaton is minimal
  pub renumbered-minimal : ((j k : ℕ) → j < length words → k < length words → state_of d (word_at words j) ≢ state_of d (word_at words k) →
      AreToldApart d (state_of d (word_at words j)) (state_of d (word_at words k))) → IsMinimal e
  renumbered-minimal told =
      let states = new.states in
      record {
        reached = λ k kl. let l : k < length words = omega arith in
            (word_at words k, record { word = word-of-e (word_at words k) (s.word k l); there = reached-at k l });
        told = λ j k jl kl ne.
            let j' : j < length words = omega arith in
            let k' : k < length words = omega arith in
            let w = told j k j' k' (λ same. ne (same-place d words done s all j k j' k' same)) in
            let h = w.1.word in
            let he = word-of-e w.0 h in
            let at : (i : ℕ) → i < length words → e.accepts (walk e.step i w.0) ≡ d.accepts (walk d.step (state_of d (word_at words i)) w.0) =
            λ i il. new.accepts (walk e.step i w.0) (let l = walk-below e renumbered-total i w.0 (omega arith) he in omega arith)
            ∙ ap d.accepts (walk-renumbered w.0 i il h) in
            (w.0, record { word = he; apart = λ same. w.1.apart (sym (at j j') ∙ same ∙ at k k') });
      }
