use Rattle.std.proofs.Common.{◌≡◌, ◌<◌, ◌++◌, ◌∷◌, [], List, All, Vec, Global, refl, sym, ap, subst, ◌∙◌}
use Rattle.std.proofs.lemmas.List.Elements.{All-push}
use Rattle.za_dfa.specs.declared.rows.Row.{Row}
use Rattle.za_dfa.specs.Rows.{target_in}
use Rattle.callers.proofs.WithoutLetter.{row-more, row-skipped}
use Rattle.callers.proofs.automata.rows_without.Goals as goal
use Rattle.callers.proofs.automata.rows_without.Goals.{then-b-a+in_ok-push, else-b-a}

pub loop-b-preserved : goal.loop-b-preserved
loop-b-preserved c =
    let P : Row → Type 0 = λ row. row.letter.0 < c.args.letters in
    let before = c.loop-b.invariant in
    let a = c.args.a.0 in
    let b = c.loop-b.b in
    let row : Row = record { from = 0; letter = record { 0 = b }; to = 0 } in
    elim c.if-b-a.branch [
      | then-b-a+in_ok-push w ↦
          let items : c.if-b-a.rows.items ≡ c.loop-b.rows.items ++ row ∷ [] = ap (λ (v : Vec Row Global). v.items) w.rows-is ∙ w.in_ok-push.ensures.items in
          record {
            known = subst (λ (rows : List Row). All P rows) (sym items) (All-push P c.loop-b.rows.items row before.known c.loop-b-test.true);
            targets = λ q k. ap (λ rows. target_in rows q k) items ∙ row-more c.loop-b.rows.items row a b refl refl refl w.if-b-a.true before.targets q k;
          }
      | else-b-a w ↦
          let items : c.if-b-a.rows.items ≡ c.loop-b.rows.items = ap (λ (v : Vec Row Global). v.items) w.rows-is in
          record {
            known = subst (λ (rows : List Row). All P rows) (sym items) before.known;
            targets = λ q k. ap (λ rows. target_in rows q k) items ∙ row-skipped c.loop-b.rows.items a b w.if-b-a.false before.targets q k;
          }
    ]
