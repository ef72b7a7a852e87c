-- The word of a generated job is accepted.
use Rattle.std.proofs.Common.{◌≡◌, ℕ, ◌<◌, ◌==◌, Bool, true, false, List, [], ◌∷◌, length, get_or, refl, ap, ◌∙◌, arith, zero-add, eq-eqb}
use Rattle.std.specs.List.{range_with_len}
use Rattle.std.proofs.lemmas.List.{get_or-map}
use Rattle.std.proofs.lemmas.List.FromFn.{get_or-range_with_len, length-range_with_len}
use Rattle.std.proofs.lemmas.List.Elements.{All-head, All-tail}
use Rattle.za_alpha.specs.Words.{IsWord}
use Rattle.za_alpha.specs.Alphabet.{loc_of}
use Rattle.za_dfa.specs.Automata.{walk}
use Rattle.za_dfa.specs.Tables.{automaton_of, step_of}
use Rattle.za_script.specs.declared.answer.Answer.TheVariants.{Accept}
use Rattle.za_script.specs.Answer.{IsAnswer}
use Rattle.za_script.specs.ScriptLists.{script_of}
use Rattle.za_gen.specs.Generated.{generated_alphabet, generated_dfa, generated_scripts, accepting_at, next_state}
use Rattle.za_gen.proofs.Tables.{step-is, next-below}
use Rattle.za_gen.proofs.Fitting.{generated-weaves}

-- the table's walk is the rule's
walk-is : (q : ℕ) (w v : List ℕ) → q < 8 → IsWord 8 v → (walk (step_of (generated_dfa w)) q v ≡ walk next_state q v) × (walk next_state q v < 8)
walk-is q w [] l h = (refl, l)
walk-is q w (a ∷ v) l h =
    let la = All-head (λ b. b < 8) a v h in
    let step = step-is (walk next_state 0 w) q a l la in
    let rest = walk-is (next_state q a) w v (next-below q a l la) (All-tail (λ b. b < 8) a v h) in
    (ap (λ x. walk (step_of (generated_dfa w)) x v) step ∙ rest.0, rest.1)

marked : (r : ℕ) → r < 8 → get_or (accepting_at r) r false ≡ true
marked r l =
    let f : ℕ → Bool = λ q. q == r in
    let long : r < length (range_with_len 0 8) = omega (arith, length-range_with_len 0 8) in
    get_or-map f (range_with_len 0 8) r 0 false long ∙ ap f (get_or-range_with_len 0 8 r 0 l ∙ zero-add r) ∙ eq-eqb r r refl

pub generated-accepted : (w : List ℕ) → IsWord 8 w → IsAnswer (loc_of generated_alphabet) (automaton_of (generated_dfa w))
    (script_of (generated_scripts w)) Accept
generated-accepted w h =
    let k = walk-is 0 w w (omega arith) h in
    (w, generated-weaves w h, ap (λ q. get_or (accepting_at (walk next_state 0 w)) q false) k.0 ∙ marked (walk next_state 0 w) k.1)
