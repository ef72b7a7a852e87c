use Rattle.std.proofs.Common.{◌≡◌, ◌++◌, [], ◌∷◌, ◌∙◌, ap, cond, map, decimal, filter, arith}
use Rattle.std.specs.List.{range_with_len}
use Rattle.za_dfa.specs.Partials.{is_accepting}
use Rattle.za_alpha.proofs.Members.{filter-range-more}
use Rattle.za_text.specs.Printed.{spaced}
use Rattle.za_write.proofs.Lines.{one-more, spaced-more}
use Rattle.za_print.proofs.print.push_accepting.Goals as goal

pub loop-q-preserved : goal.loop-q-preserved
loop-q-preserved c =
    let test = is_accepting c.args.lang.now.table in
    let q = c.loop-q.q in
    one-more _ _ _ _ _ _ c.loop-q.invariant
    (c.in_ok-push_number_if.ensures.ok ∙ ap (λ b. c.loop-q.text.items ++ cond b (spaced (decimal q ∷ [])) []) c.accepting.ensures)
    (ap (λ qs. spaced (map decimal qs)) (filter-range-more test q) ∙ spaced-more decimal (filter test (range_with_len 0 q)) (test q) q)

pub returns : goal.returns
returns c =
    let all : c.loop-q.q ≡ c.args.lang.now.table.states = omega arith in
    c.loop-q.invariant ∙ ap (λ n. c.args.text.now.items ++ spaced (map decimal (filter (is_accepting c.args.lang.now.table) (range_with_len 0 n)))) all
