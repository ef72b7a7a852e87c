-- The weave of generated scripts has as many letters as the word.
use Rattle.std.proofs.Common.{◌≡◌, ℕ, List, ◌∷◌, ◌++◌, length, length-append, refl, sym, ap, ◌∙◌, arith}
use Rattle.za_alpha.specs.Words.{IsWord, IsSwap, Swaps, Done, Then}
use Rattle.za_alpha.specs.Alphabet.{loc_of}
use Rattle.za_alpha.proofs.Swaps.{equivalence_is_swapping}
use Rattle.za_script.specs.ScriptLists.{script_of}
use Rattle.za_script.specs.Woven.{weave_of}
use Rattle.za_script.proofs.Confluence.{weave_decides}
use Rattle.za_gen.specs.Generated.{generated_alphabet, generated_scripts}
use Rattle.za_gen.proofs.Whole.{generated-distributed}
use Rattle.za_gen.proofs.Fitting.{generated-weaves}

-- a swap keeps the length
swap-length : (loc : ℕ → List ℕ) (u v : List ℕ) → IsSwap loc u v → length u ≡ length v
swap-length loc u v s =
    let from : length u ≡ length (s.before ++ s.left ∷ s.right ∷ s.after) = ap (λ (x : List ℕ). length x) s.from in
    let to : length v ≡ length (s.before ++ s.right ∷ s.left ∷ s.after) = ap (λ (x : List ℕ). length x) s.to in
    omega (arith, length-append s.before (s.left ∷ s.right ∷ s.after), length-append s.before (s.right ∷ s.left ∷ s.after))

swaps-length : (loc : ℕ → List ℕ) {u v : List ℕ} → Swaps loc u v → length u ≡ length v
swaps-length loc Done = refl
swaps-length loc (Then {u = u} {v = v} {w = w} s t) = swap-length loc u v s ∙ swaps-length loc t

pub all-fire : (w : List ℕ) → IsWord 8 w → length (weave_of generated_alphabet (generated_scripts w)) ≡ length w
all-fire w h =
    let loc = loc_of generated_alphabet in
    let located = generated-distributed.located in
    let scripts = script_of (generated_scripts w) in
    let own = generated-weaves w h in
    let woven = weave_decides loc 8 4 scripts w located own in
    sym (swaps-length loc ((equivalence_is_swapping loc 8 4 w (weave_of generated_alphabet (generated_scripts w)) located h woven.word).0
    (λ p. own.whole p ∙ sym (woven.whole p))))
