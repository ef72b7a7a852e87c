use Rattle.std.proofs.Common.{◌≡◌, ◌∙◌, ◌++◌, ◌∷◌, ◌-◌, ◌<◌, ◌≤◌, [], List, ℕ, Bool, ap, sym, subst, map, take, drop, length, get_or, append_assoc, arith}
use Rattle.std.specs.Prelude.{◌==◌, decimal, if◌then◌else◌}
use Rattle.std.proofs.lemmas.Grind.{common_steps}
use Rattle.std.proofs.lemmas.List.{append-nil, drop-map, get_or-map, length-map, length-drop}
use Rattle.std.proofs.lemmas.List.Elements.{All-drop}
use Rattle.std.proofs.Math.Seq.{take-length}
use Rattle.za_alpha.specs.declared.word.Letter.{Letter}
use Rattle.za_alpha.specs.Letters.{numbers}
use Rattle.za_alpha.specs.Alphabet.{NamedLetter, name_at}
use Rattle.za_text.specs.Printed.{spaced}
use Rattle.za_print.specs.Printed.{item_word}
use Rattle.za_print.specs.Private.Items.{runs_by, item_len}
use Rattle.za_print.proofs.ItemLemmas.{run_of_letter, runs_by-split}
use Rattle.za_print.proofs.items.push_items.Goals as goal

-- what is left after the first letters
left_is : (rest : List Letter) (n : ℕ) → n ≤ length rest → numbers (take (length rest - n) (drop n rest)) ≡ drop n (numbers rest)
left_is rest n h =
    let cut : take (length rest - n) (drop n rest) ≡ drop n rest = ap (λ k. take k (drop n rest)) (sym (length-drop n rest)) ∙ take-length (drop n rest) in
    ap numbers cut ∙ sym (drop-map (λ (a : Letter). a.0) n rest)

-- the items so far and those left, before and after one
one_item : (letters : List NamedLetter) (repeats : Bool) (xs old new goal : List ℕ) (n : ℕ) → 0 < length xs → n ≡ item_len repeats xs →
    new ≡ old ++ spaced (item_word letters (run_of_letter (get_or xs 0 0) n) ∷ []) → old ++ spaced (map (item_word letters) (runs_by repeats xs)) ≡ goal →
    new ++ spaced (map (item_word letters) (runs_by repeats (drop n xs))) ≡ goal
one_item letters repeats xs old new goal n some is pushed before =
    let item = item_word letters (run_of_letter (get_or xs 0 0) n) in
    let rest : List ℕ = spaced (map (item_word letters) (runs_by repeats (drop n xs))) in
    let split : runs_by repeats xs ≡ run_of_letter (get_or xs 0 0) n ∷ runs_by repeats (drop n xs) =
    subst (λ k. runs_by repeats xs ≡ run_of_letter (get_or xs 0 0) k ∷ runs_by repeats (drop k xs)) (sym is) (runs_by-split repeats xs some) in
    ap (λ t. t ++ rest) (pushed ∙ ap (λ t. old ++ t) (append-nil (32 ∷ item))) ∙ append_assoc old (32 ∷ item) rest
    ∙ sym (ap (λ rs. old ++ spaced (map (item_word letters) rs)) split) ∙ before

pub loop-rest-preserved : goal.loop-rest-preserved
loop-rest-preserved c =
    let letters = c.args.alphabet.now.letters in
    let repeats = c.args.repeats in
    let rest = c.loop-rest.rest.now in
    let xs = numbers rest in
    let n = c.item_len-count.result in
    let size : length xs ≡ length rest = length-map rest (λ (a : Letter). a.0) in
    let some : 0 < length rest = grind (arith, common_steps) in
    let within : n ≤ length rest = c.item_len-count.ensures.within in
    let left = left_is rest n within in
    let first : get_or xs 0 0 ≡ (get_or rest 0 (record { 0 = 0 })).0 = get_or-map (λ (a : Letter). a.0) rest 0 (record { 0 = 0 }) 0 some in
    let name : c.name.result.now ≡ name_at letters (get_or xs 0 0) = c.name.ensures ∙ ap (name_at letters) (sym first) in
    let pushed : c.push_item.new.text.items ≡ c.loop-rest.text.items ++ spaced (item_word letters (run_of_letter (get_or xs 0 0) n) ∷ []) =
    c.in_ok-push_item.ensures ∙ ap (λ w. c.loop-rest.text.items ++ spaced ((if n == 1 then w else w ++ 42 ∷ decimal n) ∷ [])) name in
    record {
      word = subst (λ ys. (k d : ℕ) → k < length ys → get_or ys k d < length letters) (sym left)
          (All-drop (λ a. a < length letters) n xs c.loop-rest.invariant.word);
      text = ap (λ ys. c.push_item.new.text.items ++ spaced (map (item_word letters) (runs_by repeats ys))) left
          ∙ one_item letters repeats xs c.loop-rest.text.items c.push_item.new.text.items _ n (omega arith) c.item_len-count.ensures.value pushed
          c.loop-rest.invariant.text;
    }
