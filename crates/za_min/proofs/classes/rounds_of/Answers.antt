use Rattle.std.proofs.Common.{◌≡◌, suc, true, false, ◌+◌, [], ◌∷◌, ◌++◌, ap, sym, subst, ◌∙◌, map, length, length-append, arith, ◌<◌}
use Rattle.std.specs.List.{range_with_len}
use Rattle.std.proofs.lemmas.List.FromFn.{map-range_with_len_more}
use Rattle.za_dfa.specs.Tables.{automaton_of}
use Rattle.za_min.specs.Private.Rounds.{rounds, refine}
use Rattle.za_min.proofs.RoundLemmas.{length-rounds}
use Rattle.za_min.proofs.RoundSteps.{round-nearer, gap}
use Rattle.za_min.proofs.classes.rounds_of.Goals as goal

pub classes_after-requires-in-loop-classes : goal.classes_after-requires-in-loop-classes
classes_after-requires-in-loop-classes c = λ x e.
    let same : c.loop-classes.classes ≡ x = cc in
    ap length (sym same) ∙ ap length c.loop-classes.invariant.classes ∙ length-rounds (automaton_of c.args.dfa.now) (length c.loop-classes.rows.items)

pub returns-then-is_stable : goal.returns-then-is_stable
returns-then-is_stable c =
    let d = automaton_of c.args.dfa.now in
    let k = length c.loop-classes.rows.items in
    let e = c.loop-classes.invariant.classes in
    let same : c.in_ok-next.next ≡ c.loop-classes.classes = c.is_same-is_stable.ensures.0 c.if-is_stable.true in
    record {
      whole = c.states.ensures.whole;
      rounds = record {
        last = k;
        rows_each = c.in_ok-push.ensures.items ∙ ap (λ rows. rows ++ c.loop-classes.classes ∷ []) c.loop-classes.invariant.rows
            ∙ ap (λ row. map (rounds d) (range_with_len 0 k) ++ row ∷ []) e
            ∙ sym (map-range_with_len_more (rounds d) 0 k k (omega arith));
        stable = ap (refine d) (sym e) ∙ sym c.in_ok-next.ensures ∙ same ∙ e;
      };
    }

pub loop-classes-smaller : goal.loop-classes-smaller
loop-classes-smaller c =
    let d = automaton_of c.args.dfa.now in
    let k = length c.loop-classes.rows.items in
    let e = c.loop-classes.invariant.classes in
    let e' : c.in_ok-next.next ≡ rounds d (suc k) = c.in_ok-next.ensures ∙ ap (refine d) e in
    let near = round-nearer d k (λ same.
    let yes : c.is_same-is_stable.result ≡ true = c.is_same-is_stable.ensures.1 (e' ∙ sym same ∙ sym e) in
    let no : c.is_same-is_stable.result ≡ false = c.if-is_stable.false in
    absurd (cc)) in
    subst (λ x. gap c.args.dfa.now.states x < gap c.args.dfa.now.states c.loop-classes.classes) (sym e')
    (subst (λ y. gap c.args.dfa.now.states (rounds d (suc k)) < gap c.args.dfa.now.states y) (sym e) near)

pub loop-classes-preserved : goal.loop-classes-preserved
loop-classes-preserved c =
    let d = automaton_of c.args.dfa.now in
    let k = length c.loop-classes.rows.items in
    let e = c.loop-classes.invariant.classes in
    let long : length c.push.new.self.items ≡ k + 1 = let e = ap length c.in_ok-push.ensures.items in let l =
    length-append c.loop-classes.rows.items (c.loop-classes.classes ∷ []) in omega arith in
    let next : suc k ≡ length c.push.new.self.items = omega arith in
    record {
      rows = c.in_ok-push.ensures.items ∙ ap (λ rows. rows ++ c.loop-classes.classes ∷ []) c.loop-classes.invariant.rows
          ∙ ap (λ row. map (rounds d) (range_with_len 0 k) ++ row ∷ []) e
          ∙ sym (map-range_with_len_more (rounds d) 0 k k (omega arith)) ∙ ap (λ n. map (rounds d) (range_with_len 0 n)) (sym long);
      classes = c.in_ok-next.ensures ∙ ap (refine d) e ∙ ap (rounds d) next;
    }
