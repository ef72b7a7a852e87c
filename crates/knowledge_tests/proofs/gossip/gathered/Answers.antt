use Rattle.std.proofs.Common.{◌≡◌, ℕ, ◌++◌, ◌∷◌, [], map, length, Vec, Global, sym, ap, ◌∙◌, arith}
use Rattle.za_alpha.specs.Alphabet.{loc_of, procs_at}
use Rattle.za_alpha.specs.Procs.{members_below}
use Rattle.za_alpha.proofs.Members.{members_below-zero}
use Rattle.za_gossip.specs.Rows.{Rows, rows_after}
use Rattle.za_order.proofs.Rising.{map-members-in, map-members-out, members-fit}
use Rattle.knowledge_tests.proofs.GossipRows.{row-at, length-all, length-primary}
use Rattle.knowledge_tests.proofs.gossip.gathered.Goals as goal
use Rattle.knowledge_tests.proofs.gossip.gathered.Goals.{then-has+in_ok-copied+in_ok-push, else-has}

pub loop-x-init : goal.loop-x-init
loop-x-init c = c.new-inputs.ensures.items
    ∙ sym (ap (map (rows_after (loc_of c.args.alphabet.now) c.args.alphabet.now.processes c.args.word.now)) (members_below-zero c.loc-participants.result))

pub bounds-states-x : goal.bounds-states-x
bounds-states-x c =
    let long = length-all c.args.alphabet.now c.args.word.now c.args.states.now c.requires.states in
    let n = c.processes-n.ensures.value in
    let t = c.loop-x-test.true in omega arith

pub copied-requires-clause-shape : goal.copied-requires-clause-shape
copied-requires-clause-shape c =
    let size : Rows → ℕ = λ rows. length rows.primary in
    let n = c.processes-n.ensures.value in
    let t = c.loop-x-test.true in
    ap size (c.index-states-x.is ∙ row-at c.args.alphabet.now c.args.word.now c.args.states.now c.requires.states c.loop-x.x c.index-states-x.result
    (omega arith))
    ∙ length-primary (loc_of c.args.alphabet.now) c.args.alphabet.now.processes c.args.word.now c.loop-x.x ∙ sym c.processes-n.ensures.value

pub loop-x-preserved : goal.loop-x-preserved
loop-x-preserved c =
    let f = rows_after (loc_of c.args.alphabet.now) c.args.alphabet.now.processes c.args.word.now in
    let x : ℕ = c.loop-x.x in
    let few = c.processes-n.ensures.whole.few_processes in
    let n = c.processes-n.ensures.value in
    let t = c.loop-x-test.true in
    elim c.if-has.branch [
      | then-has+in_ok-copied+in_ok-push w ↦
          let row : w.in_ok-copied.field-0 ≡ f x = w.in_ok-copied.ensures ∙ w.index-states-x.is
          ∙ row-at c.args.alphabet.now c.args.word.now c.args.states.now c.requires.states x w.index-states-x.result (omega arith) in
          ap (λ (v : Vec Rows Global). v.items) w.inputs-is ∙ w.in_ok-push.ensures.items
          ∙ ap (λ xs. xs ++ w.in_ok-copied.field-0 ∷ []) c.loop-x.invariant
          ∙ ap (λ r. map f (members_below c.loc-participants.result x) ++ r ∷ []) row
          ∙ sym (map-members-in f c.loc-participants.result x (omega arith) (sym c.has.ensures ∙ w.if-has.true))
      | else-has w ↦
          ap (λ (v : Vec Rows Global). v.items) w.inputs-is ∙ c.loop-x.invariant
          ∙ sym (map-members-out f c.loc-participants.result x (omega arith) (sym c.has.ensures ∙ w.if-has.false))
    ]

pub returns : goal.returns
returns c =
    let n = c.processes-n.ensures.value in
    let t = c.loop-x-test.false in
    let whole = c.processes-n.ensures.whole in
    let few = whole.few_processes in
    let set = procs_at c.args.alphabet.now.letters c.args.a.0 in
    let f = rows_after (loc_of c.args.alphabet.now) c.args.alphabet.now.processes c.args.word.now in
    let end : c.loop-x.x ≡ c.args.alphabet.now.processes = omega arith in
    record {
      word = c.requires.states.word;
      rows = c.loop-x.invariant ∙ ap (λ s. map f (members_below s c.loop-x.x)) c.loc-participants.ensures
          ∙ ap (λ x. map f (members_below set x)) end
          ∙ ap (map f) (members-fit set c.args.alphabet.now.processes (omega arith) (λ p h. whole.located.below c.args.a.0 p c.requires.letter h));
    }
