use Rattle.std.proofs.Common.{◌≡◌, ℕ, ◌<◌, ◌||◌, [], List, length, get_or, sym, ap, ◌∙◌, arith}
use Rattle.std.specs.List.{range_with_len, list_any}
use Rattle.std.proofs.lemmas.List.{get_or_default}
use Rattle.za_alpha.specs.Words.{has}
use Rattle.za_alpha.specs.Procs.{members}
use Rattle.za_order.proofs.Ranges.{any-more}
use Rattle.za_ids.specs.Numbers.{event_numbers}
use Rattle.za_gossip.specs.Rows.{Rows}
use Rattle.za_residue.specs.Masks.{is_shared}
use Rattle.za_local.specs.Private.Shared.{primary_row}
use Rattle.za_local.proofs.masks.earlier_of.Goals as goal

-- the primary row of an input that was read
read : (inputs : List Rows) (k : ℕ) (row : List ℕ) (input : Rows) → k < length inputs → row ≡ input.primary → input ≡ get_or inputs k input → row
    ≡ primary_row inputs k
read inputs k row input l e is = e ∙ ap (λ (r : Rows). r.primary) (is ∙ get_or_default inputs k input (record { primary = []; secondary = []; tertiary = [] })
    l)

pub loop-j-preserved : goal.loop-j-preserved
loop-j-preserved c = λ s.
    let inputs = c.args.inputs.now in
    let i : ℕ = c.args.i in
    let j : ℕ = c.loop-j.j in
    let t = c.loop-j-test.true in
    let test = λ (j : ℕ). is_shared (primary_row inputs i) (primary_row inputs j) s in
    c.union-earlier.ensures s
    ∙ ap (λ b. b || has (members c.below.result) s) (c.loop-j.invariant s)
    ∙ ap (λ b. list_any test (range_with_len 0 j) || b)
    (c.below.ensures s
    ∙ ap (λ row. is_shared row (event_numbers c.primary-in-loop-j.result.now) s)
    (read inputs i (event_numbers c.primary.result.now) c.index-inputs-i.result c.requires.input c.primary.ensures.value c.index-inputs-i.is)
    ∙ ap (λ row. is_shared (primary_row inputs i) row s) (read inputs j (event_numbers c.primary-in-loop-j.result.now) c.index-inputs-j.result
    (let l = c.requires.input in omega arith) c.primary-in-loop-j.ensures.value c.index-inputs-j.is))
    ∙ sym (any-more test j)
