use Rattle.std.proofs.Common.{◌≡◌, ◌++◌, ◌∷◌, [], map, sym, ap, ◌∙◌, arith}
use Rattle.std.specs.List.{range_with_len}
use Rattle.std.proofs.lemmas.List.Elements.{All-nil}
use Rattle.std.proofs.lemmas.List.FromFn.{map-range_with_len_more}
use Rattle.za_alpha.specs.Alphabet.{loc_of}
use Rattle.za_gossip.specs.Rows.{rows_after}
use Rattle.knowledge_tests.proofs.gossip.opened.Goals as goal

pub loop-preserved : goal.loop-preserved
loop-preserved c =
    let f = rows_after (loc_of c.args.alphabet.now) c.processes-n.result [] in
    c.in_ok-push.ensures.items ∙ ap (λ xs. xs ++ c.in_ok-blank.field-0 ∷ []) c.loop.invariant
    ∙ ap (λ r. map f (range_with_len 0 c.loop.counter) ++ r ∷ []) (c.in_ok-blank.ensures.opening (loc_of c.args.alphabet.now) c.loop.counter)
    ∙ sym (map-range_with_len_more f 0 c.loop.counter c.loop.counter (omega arith))

pub returns : goal.returns
returns c =
    let n = c.processes-n.ensures.value in
    let end : c.loop.counter ≡ c.processes-n.result = omega arith in
    record {
      word = All-nil _;
      rows = c.loop.invariant
          ∙ ap (λ x. map (rows_after (loc_of c.args.alphabet.now) c.processes-n.result []) (range_with_len 0 x)) end
          ∙ ap (λ x. map (rows_after (loc_of c.args.alphabet.now) x []) (range_with_len 0 x)) n;
    }
