-- The two words of a break are words.
use Rattle.std.proofs.Common.{ℕ, ◌<◌, List, ◌∷◌, arith}
use Rattle.std.proofs.lemmas.List.Elements.{All-cons, All-append}
use Rattle.za_alpha.specs.Words.{IsWord}
use Rattle.za_dfa.specs.Automata.{Automaton}
use Rattle.za_closure.specs.Breaks.{Break, IsBreak, left_word, right_word}

pub left-is-word : (loc : ℕ → List ℕ) (d : Automaton) (k : Break) → IsBreak loc d k → IsWord d.letters (left_word k)
left-is-word loc d k b =
    let o = b.order in
    let l = b.letter in
    All-append (λ c. c < d.letters) k.before (k.left ∷ k.right ∷ k.after) b.before_word
    (All-cons (λ c. c < d.letters) k.left (k.right ∷ k.after) (omega arith) (All-cons (λ c. c < d.letters) k.right k.after b.letter b.after_word))

pub right-is-word : (loc : ℕ → List ℕ) (d : Automaton) (k : Break) → IsBreak loc d k → IsWord d.letters (right_word k)
right-is-word loc d k b =
    let o = b.order in
    let l = b.letter in
    All-append (λ c. c < d.letters) k.before (k.right ∷ k.left ∷ k.after) b.before_word
    (All-cons (λ c. c < d.letters) k.right (k.left ∷ k.after) b.letter (All-cons (λ c. c < d.letters) k.left k.after (omega arith) b.after_word))
