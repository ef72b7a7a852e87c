use Rattle.std.proofs.Common.{rules, ◌≡◌, ◌++◌, ◌+◌, ◌-◌, ℕ, length, replicate, take, ap, refl, ◌∙◌, arith, vec_len, zero, suc}
use Rattle.std.proofs.lemmas.List.{take_all, map-append}
use Rattle.za_alpha.specs.declared.word.Letter.{Letter}
use Rattle.za_alpha.specs.Letters.{numbers}
use Rattle.za_alpha.proofs.word.Word.push_run.Goals as goal

numbers-replicate : (n : ℕ) (a : Letter) → numbers (replicate n a) ≡ replicate n a.0
numbers-replicate zero a = refl
numbers-replicate (suc n) a = let e = numbers-replicate n a in cc

pub returns-clause-ok : goal.returns-clause-ok
returns-clause-ok c =
    let old = c.self.inside.items in
    let size : vec_len old ≡ length old.items = search rules in
    let len : c.len.result ≡ vec_len old = c.len.ensures in
    let count : c.len.result + c.args.count - vec_len old ≡ c.args.count = omega arith in
    let all : take (c.len.result + c.args.count) old.items ≡ old.items = take_all (c.len.result + c.args.count) old.items (omega arith) in
    ap numbers c.in_ok-resize.ensures.items
    ∙ ap (λ xs. numbers (xs ++ replicate (c.len.result + c.args.count - vec_len old) c.args.a)) all
    ∙ ap (λ n. numbers (old.items ++ replicate n c.args.a)) count
    ∙ map-append (λ (l : Letter). l.0) old.items (replicate c.args.count c.args.a)
    ∙ ap (λ xs. numbers old.items ++ xs) (numbers-replicate c.args.count c.args.a)
    ∙ ap (λ w. w ++ replicate c.args.count c.args.a.0) c.self.view_is
