use Rattle.std.proofs.Common.{◌≡◌, ℕ, ◌<◌, ◌++◌, ◌∷◌, [], List, length, take, get_or, cond, sym, ap, subst, ◌∙◌, arith, length-take}
use Rattle.std.proofs.lemmas.List.{ext_get_or, take_all}
use Rattle.std.proofs.lemmas.List.Elements.{All-take}
use Rattle.za_alpha.specs.Words.{has, projection, IsWord}
use Rattle.za_alpha.specs.Letters.{numbers}
use Rattle.za_alpha.specs.Alphabet.{DistributedAlphabet, loc_of}
use Rattle.za_alpha.proofs.Projections.{letter-within, numbers-length}
use Rattle.za_gen.specs.Generated.{generated_alphabet, generated_scripts}
use Rattle.za_gen.proofs.Letters.{no_letter, letters-step, seen-more}
use Rattle.za_gen.proofs.Fitting.{script-is, scripts-size}
use Rattle.za_gen.proofs.Totals.{total-few}
use Rattle.za_gen.proofs.scripts.scripts_of.Goals as goal

pub empty-requires-clause-some : goal.empty-requires-clause-some
empty-requires-clause-some c = let four : c.args.alphabet.now.processes ≡ 4 = ap (λ (x : DistributedAlphabet). x.processes) c.requires.alphabet in omega arith

pub add_to_all-requires-clause-room : goal.add_to_all-requires-clause-room
add_to_all-requires-clause-room c =
    let letters = c.letters-letters.result.now in
    let i = c.loop-a.a-index in
    let four : c.args.alphabet.now.processes ≡ 4 = ap (λ (x : DistributedAlphabet). x.processes) c.requires.alphabet in
    let word : IsWord 8 (numbers letters) = subst (IsWord 8) (sym c.letters-letters.ensures) c.requires.word in
    let few = total-few (take i (numbers letters)) (All-take (λ a. a < 8) i (numbers letters) word) c.loop-a.scripts c.loop-a.invariant.size
    c.loop-a.invariant.seen in
    let same : length (numbers letters) ≡ length c.args.word.now = ap (λ (x : List ℕ). length x) c.letters-letters.ensures in
    let limit = c.requires.few in
    omega (arith, length-take i (numbers letters), numbers-length letters)

pub add_to_all-requires-clause-letter : goal.add_to_all-requires-clause-letter
add_to_all-requires-clause-letter c =
    let letters = c.letters-letters.result.now in
    let eight : length c.args.alphabet.now.letters ≡ 8 = ap (λ (x : DistributedAlphabet). length x.letters) c.requires.alphabet in
    let word : IsWord 8 (numbers letters) = subst (IsWord 8) (sym c.letters-letters.ensures) c.requires.word in
    let low = letter-within 8 letters c.loop-a.a-index no_letter word (omega arith) in omega arith

pub loop-a-preserved : goal.loop-a-preserved
loop-a-preserved c =
    let letters = c.letters-letters.result.now in
    let i = c.loop-a.a-index in
    let a = (get_or letters i no_letter).0 in
    let loc = loc_of generated_alphabet in
    let four : c.args.alphabet.now.processes ≡ 4 = ap (λ (x : DistributedAlphabet). x.processes) c.requires.alphabet in
    let alike : (p : ℕ) → cond (has (loc_of c.args.alphabet.now a) p) (a ∷ []) [] ≡ cond (has (loc a) p) (a ∷ []) [] =
    λ p. ap (λ (x : DistributedAlphabet). cond (has (loc_of x a) p) (a ∷ []) []) c.requires.alphabet in
    record {
      size = c.in_ok-add_to_all.ensures.size ∙ c.loop-a.invariant.size;
      seen = λ p l.
          c.in_ok-add_to_all.ensures.added p (omega arith) ∙ ap (λ x. x ++ cond (has (loc_of c.args.alphabet.now a) p) (a ∷ []) [])
          (c.loop-a.invariant.seen p l)
          ∙ ap (λ x. projection loc p (take i (numbers letters)) ++ x) (alike p) ∙ sym (seen-more loc p (take i (numbers letters)) a)
          ∙ ap (projection loc p) (sym (letters-step letters i (omega arith)));
    }

pub returns : goal.returns
returns c =
    let letters = c.letters-letters.result.now in
    let w = c.args.word.now in
    let loc = loc_of generated_alphabet in
    let all : take c.loop-a.a-index (numbers letters) ≡ w = take_all c.loop-a.a-index (numbers letters) (omega (arith, numbers-length letters))
    ∙ c.letters-letters.ensures in
    let size = c.loop-a.invariant.size in
    ext_get_or [] c.loop-a.scripts (generated_scripts w) (size ∙ sym (scripts-size w))
    (λ p l. let lp : p < 4 = omega arith in c.loop-a.invariant.seen p lp ∙ ap (projection loc p) all ∙ sym (script-is w p lp))
