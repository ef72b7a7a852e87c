-- The answer of states that are over, and what is left from any state on.
use Rattle.std.proofs.Common.{◌≡◌, ℕ, zero, suc, ◌<◌, ◌↔◌, Bool, true, List, [], ◌∷◌, length, refl, sym, subst, arith}
use Rattle.std.specs.List.{list_all}
use Rattle.std.proofs.lemmas.Bool.{and_parts, and_from}
use Rattle.za_alpha.specs.Words.{IsAlphabet}
use Rattle.za_script.specs.Scripts.{total, Weaves, FitsMaximally}
use Rattle.za_script.proofs.Answers.{maximal_words_have_the_answer}
use Rattle.za_script.proofs.GoingOn.{weaving_goes_on, rest_is_one_trace}
use Rattle.za_machine.specs.Machine.{is_in}
use Rattle.za_machine.specs.Laws.{OverHasTheAnswer, WeavingGoesOnFromStates, RestsWeaveTheSame}
use Rattle.za_machine.proofs.States.{reached-sound, reached_maximal, reached_weaves}

-- all are marked exactly if the list says so
marked-each : (bs : List Bool) → list_all (λ e. e) bs ≡ true → (p : ℕ) → p < length bs → is_in bs p ≡ true
marked-each [] h p l = absurd (omega arith)
marked-each (b ∷ bs) h zero l = (and_parts b (list_all (λ e. e) bs) h).0
marked-each (b ∷ bs) h (suc p) l = marked-each bs (and_parts b (list_all (λ e. e) bs) h).1 p (omega arith)

marked-all : (bs : List Bool) → ((p : ℕ) → p < length bs → is_in bs p ≡ true) → list_all (λ e. e) bs ≡ true
marked-all [] h = refl
marked-all (b ∷ bs) h = and_from b (list_all (λ e. e) bs) (h 0 (omega arith)) (marked-all bs (λ p l. h (suc p) (omega arith)))

pub over_has_the_answer : OverHasTheAnswer
over_has_the_answer m d c ok same closed r o =
    let s = reached-sound m c r in
    let n = reached_weaves m c ok r o in
    maximal_words_have_the_answer m.loc m.processes d m.scripts (record { word = c.journal; counts = []; whole = list_all (λ e. e) c.ended })
    (subst (λ l. IsAlphabet m.loc l m.processes) (sym same) ok.alphabet) closed
    (subst (λ l. FitsMaximally m.loc l m.scripts c.journal) (sym same) (reached_maximal m c ok r o))
    (subst (λ l. (list_all (λ e. e) c.ended ≡ true) ↔ Weaves m.loc l m.scripts c.journal) (sym same) (
      λ h. n.1 (λ p l. marked-each c.ended h p (let z = s.ended_size in omega arith)),
      λ k. marked-all c.ended (λ p l. n.0 k p (let z = s.ended_size in omega arith)),
    ))

pub weaving_goes_on_from_states : WeavingGoesOnFromStates
weaving_goes_on_from_states m c ok r =
    weaving_goes_on m.loc m.letters m.processes m.scripts (total m.scripts m.processes) c.journal ok.alphabet (reached-sound m c r).fits (omega arith)

pub rests_weave_the_same : RestsWeaveTheSame
rests_weave_the_same m c ok r = rest_is_one_trace m.loc m.letters m.processes m.scripts c.journal ok.alphabet (reached-sound m c r).fits
