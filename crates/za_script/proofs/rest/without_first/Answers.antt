use Rattle.std.proofs.Common.{drop, length, ap, sym, ◌∙◌, ◌-◌, arith}
use Rattle.std.proofs.lemmas.List.{drop-map, take_all, length-drop}
use Rattle.za_alpha.specs.declared.word.Letter.{Letter}
use Rattle.za_alpha.specs.Letters.{numbers}
use Rattle.za_script.proofs.rest.without_first.Goals as goal

pub returns : goal.returns
returns c =
    let xs = c.args.letters.now in
    let n : _ = c.args.count in
    let l = length-drop n xs in
    c.of_letters.ensures ∙ ap numbers (c.in_ok-from_slice.ensures.items ∙ take_all (length xs - n) (drop n xs) (omega arith))
    ∙ sym (drop-map (λ (a : Letter). a.0) n xs)
