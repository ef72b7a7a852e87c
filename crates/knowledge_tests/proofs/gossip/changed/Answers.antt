use Rattle.std.proofs.Common.{◌≡◌, ℕ, ◌++◌, ◌∷◌, [], map, length, Bor, sym, ap, ◌∙◌, arith}
use Rattle.std.specs.List.{range_with_len}
use Rattle.std.proofs.lemmas.List.FromFn.{map-range_with_len_more}
use Rattle.za_alpha.specs.Words.{has}
use Rattle.za_alpha.specs.Alphabet.{loc_of}
use Rattle.za_alpha.specs.Procs.{members}
use Rattle.za_gossip.specs.Rows.{Rows, rows_after}
use Rattle.za_gossip.proofs.Updates.{rows-kept}
use Rattle.knowledge_tests.proofs.GossipRows.{row-at, length-all, length-primary, word-longer}
use Rattle.knowledge_tests.proofs.gossip.changed.Goals as goal
use Rattle.knowledge_tests.proofs.gossip.changed.Goals.{then-has, else-has, Joined-has}

pub bounds-states-x : goal.bounds-states-x
bounds-states-x c =
    let long = length-all c.args.alphabet.now c.args.word.now c.args.states.now c.requires.states in
    let n = c.processes-n.ensures.value in
    let t = c.loop-x-test.true in omega arith

-- what is copied are the rows after the event
row : (c : Joined-has) → c.if-has.rows.now ≡ rows_after (loc_of c.args.alphabet.now) c.args.alphabet.now.processes (c.args.word.now ++ c.args.a.0 ∷ [])
    c.loop-x.x
row c =
    let alphabet = c.args.alphabet.now in
    let x : ℕ = c.loop-x.x in
    let now : Bor Rows → Rows = λ r. r.now in
    let n = c.processes-n.ensures.value in
    let t = c.loop-x-test.true in
    let part : c.has.result ≡ has (loc_of alphabet c.args.a.0) x = c.has.ensures ∙ ap (λ s. has (members s) x) c.loc-participants.ensures in
    elim c.if-has.branch [
      | then-has w ↦ ap now w.rows-is ∙ c.requires.next x (sym part ∙ w.if-has.true)
      | else-has w ↦
          ap now w.rows-is ∙ w.index-states-x.is
          ∙ row-at alphabet c.args.word.now c.args.states.now c.requires.states x w.index-states-x.result (omega arith)
          ∙ rows-kept (loc_of alphabet) (length alphabet.letters) alphabet.processes c.args.word.now c.args.a.0 c.processes-n.ensures.whole.located
          c.requires.states.word c.requires.letter x
          (sym part ∙ w.if-has.false)
    ]

pub copied-requires-clause-shape : goal.copied-requires-clause-shape
copied-requires-clause-shape c =
    ap (λ (rows : Rows). length rows.primary) (row (goal.at.copied-requires-clause-shape c).Joined-has)
    ∙ length-primary (loc_of c.args.alphabet.now) c.args.alphabet.now.processes (c.args.word.now ++ c.args.a.0 ∷ []) c.loop-x.x
    ∙ sym c.processes-n.ensures.value

pub loop-x-preserved : goal.loop-x-preserved
loop-x-preserved c =
    let f = rows_after (loc_of c.args.alphabet.now) c.args.alphabet.now.processes (c.args.word.now ++ c.args.a.0 ∷ []) in
    c.in_ok-push.ensures.items ∙ ap (λ xs. xs ++ c.in_ok-copied.field-0 ∷ []) c.loop-x.invariant
    ∙ ap (λ r. map f (range_with_len 0 c.loop-x.x) ++ r ∷ []) (c.in_ok-copied.ensures ∙ row (goal.at.loop-x-preserved c).Joined-has)
    ∙ sym (map-range_with_len_more f 0 c.loop-x.x c.loop-x.x (omega arith))

pub returns : goal.returns
returns c =
    let f = rows_after (loc_of c.args.alphabet.now) c.args.alphabet.now.processes (c.args.word.now ++ c.args.a.0 ∷ []) in
    let n = c.processes-n.ensures.value in
    let t = c.loop-x-test.false in
    let end : c.loop-x.x ≡ c.args.alphabet.now.processes = omega arith in
    record {
      word = word-longer c.args.alphabet.now c.args.word.now c.args.states.now c.requires.states c.args.a.0 c.requires.letter;
      rows = c.loop-x.invariant ∙ ap (λ x. map f (range_with_len 0 x)) end;
    }
