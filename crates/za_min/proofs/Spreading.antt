-- Marks spread backwards along letters, from the accepting states on.
use Rattle.std.proofs.Common.{◌≡◌, ℕ, ◌<◌, Bool, true, false, inl, inr, List, [], ◌∷◌, length, set, get_or, cond, sym, ap, subst, ◌∙◌, arith}
use Rattle.std.proofs.Common.{get_or-set_other, get_or-set_same}
use Rattle.std.specs.List.{sum_by}
use Rattle.std.proofs.Math.ListN.{length-set}
use Rattle.std.proofs.lemmas.Bool.{cases_eq}
use Rattle.std.proofs.lemmas.List.Sums.{sum_by-set}
use Rattle.std.proofs.lemmas.List.Elements.{All-nil, All-cons, All-head, All-tail}
use Rattle.za_alpha.specs.Words.{IsWord}
use Rattle.za_dfa.specs.Automata.{Automaton, IsTotal, walk}
use Rattle.za_dfa.proofs.Diamonds.{walk-append}
use Rattle.za_dfa.specs.Tables.{CompleteDfa, IsComplete, automaton_of}
use Rattle.za_min.specs.Live.{IsAlive, is_marked, AreLive}
use Rattle.za_min.specs.Laws.{AliveStatesContinueWords}
use Rattle.za_min.specs.Private.Spreading.{IsNext, AreSpread, AreSound}

-- how many marks are missing
abbrev pub one_if_not : Bool → ℕ
one_if_not b = cond b 0 1

abbrev pub missing : List Bool → ℕ
missing marks = sum_by one_if_not marks

pub missing-falls : (marks : List Bool) (q : ℕ) → q < length marks → is_marked marks q ≡ false → missing (set marks q true) < missing marks
missing-falls marks q l h =
    let s = sum_by-set one_if_not marks q true false l in
    let o : one_if_not (get_or marks q false) ≡ 1 = ap one_if_not h in omega arith

pub accepting-sound : (d : CompleteDfa) (marks : List Bool) → IsComplete d → marks ≡ d.accepting → AreSound (automaton_of d) marks
accepting-sound d marks c e =
    record {
      one_each = ap length e ∙ c.accepting_length;
      accepting = λ q l h. ap (λ bs. is_marked bs q) e ∙ h;
      alive = λ q l h. ([], All-nil (λ a. a < length d.alphabet.letters), ap (λ bs. is_marked bs q) (sym e) ∙ h);
    }

pub next-sound : (d : Automaton) (marks : List Bool) (q : ℕ) → IsTotal d → AreSound d marks → IsNext d marks q → AreSound d (set marks q true)
next-sound d marks q t s n =
    record {
      one_each = length-set marks q true ∙ s.one_each;
      accepting = λ r l h. elim (cases_eq r q) [
        | inl e ↦
            let lt : r < length marks = omega (arith, s.one_each) in
            subst (λ x. is_marked (set marks x true) r ≡ true) e (get_or-set_same marks r true false lt)
        | inr ne ↦ get_or-set_other marks q r true false ne ∙ s.accepting r l h
      ];
      alive = λ r l h. elim (cases_eq r q) [
        | inl e ↦
            let on = n.on in
            let k = s.alive (d.step q on.by) (t.steps q on.by n.state on.letter) on.there in
            subst (IsAlive d) (sym e) (on.by ∷ k.0, All-cons (λ a. a < d.letters) on.by k.0 on.letter k.1, k.2)
        | inr ne ↦ s.alive r l (sym (get_or-set_other marks q r true false ne) ∙ h)
      ];
    }

spread-back : (d : Automaton) (marks : List Bool) → IsTotal d → AreSound d marks → AreSpread d marks → (w : List ℕ) (q : ℕ) →
    q < d.states → IsWord d.letters w → d.accepts (walk d.step q w) ≡ true → is_marked marks q ≡ true
spread-back d marks t s p [] q l h k = s.accepting q l k
spread-back d marks t s p (a ∷ w) q l h k =
    let la = All-head (λ b. b < d.letters) a w h in
    p q l (record { by = a; letter = la; there = spread-back d marks t s p w (d.step q a) (t.steps q a l la) (All-tail (λ b. b < d.letters) a w h) k })

pub spread-live : (d : Automaton) (marks : List Bool) → IsTotal d → AreSound d marks → AreSpread d marks → AreLive d marks
spread-live d marks t s p = record { one_each = s.one_each; each = λ q l. (s.alive q l, λ k. spread-back d marks t s p k.0 q l k.1 k.2) }

pub alive_states_continue_words : AliveStatesContinueWords
alive_states_continue_words d w = (
  λ c. (c.0, c.1, subst (λ q. d.accepts q ≡ true) (walk-append d.step d.start w c.0) c.2),
  λ a. (a.0, a.1, subst (λ q. d.accepts q ≡ true) (sym (walk-append d.step d.start w a.0)) a.2),
)
