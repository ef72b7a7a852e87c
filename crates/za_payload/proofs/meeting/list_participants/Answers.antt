use Rattle.std.proofs.Common.{◌≡◌, ℕ, ◌<◌, ◌+◌, List, [], ◌∷◌, ◌++◌, length, length-set, take, sym, ap, subst, ◌∙◌, arith}
use Rattle.std.specs.Prelude.{All}
use Rattle.std.proofs.lemmas.Bool.{cond-true, cond-false}
use Rattle.std.proofs.lemmas.List.{take_more_set, append-nil}
use Rattle.std.proofs.lemmas.List.Elements.{All-push, All-nil}
use Rattle.za_alpha.specs.Words.{has}
use Rattle.za_alpha.specs.Procs.{members, members_below}
use Rattle.za_alpha.specs.Alphabet.{procs_at}
use Rattle.za_alpha.proofs.Members.{members_below-zero, members_below-more}
use Rattle.za_order.proofs.Rising.{members-fit}
use Rattle.za_payload.proofs.meeting.list_participants.Goals as goal
use Rattle.za_payload.proofs.meeting.list_participants.Goals.{then-has, else-has}

pub loop-p-init : goal.loop-p-init
loop-p-init c =
    record {
      within = omega arith;
      listed = sym (members_below-zero c.loc-takes.result);
      below = All-nil (λ q. q < c.args.alphabet.now.processes);
      long = c.told-into;
    }

pub loop-p-preserved : goal.loop-p-preserved
loop-p-preserved c =
    let s = c.loc-takes.result in
    let p : ℕ = c.loop-p.p in
    let k : ℕ = c.loop-p.count in
    let xs : List ℕ = c.loop-p.into in
    let few = c.processes-p-end.ensures.whole.few_processes in
    let n = c.processes-p-end.ensures.value in
    let t = c.loop-p-test.true in
    let inv = c.loop-p.invariant in
    let within = inv.within in
    let size = inv.long in
    let long : k < length xs = omega arith in
    let next = members_below-more s p (omega arith) in
    let small : ℕ → Type 0 = λ q. q < c.args.alphabet.now.processes in
    elim c.if-has.branch [
      | then-has w ↦
          let more = w.count-is in
          let grown : take c.if-has.count c.if-has.into ≡ take k xs ++ p ∷ [] =
          ap (λ i. take i c.if-has.into) more ∙ ap (take (k + 1)) w.into-is ∙ take_more_set xs k p long in
          record {
            within = omega arith;
            listed = grown ∙ ap (λ ys. ys ++ p ∷ []) inv.listed
                ∙ sym (next ∙ ap (λ ys. members_below s p ++ ys) (cond-true (has (members s) p) (p ∷ []) [] (sym c.has.ensures ∙ w.if-has.true)));
            below = subst (All small) (sym grown) (All-push small (take k xs) p inv.below (omega arith));
            long = ap length w.into-is ∙ length-set xs k p ∙ size;
          }
      | else-has w ↦
          let more = w.count-is in
          let same : take c.if-has.count c.if-has.into ≡ take k xs = ap (λ i. take i c.if-has.into) more ∙ ap (take k) w.into-is in
          record {
            within = omega arith;
            listed = same ∙ inv.listed
                ∙ sym (next ∙ ap (λ ys. members_below s p ++ ys) (cond-false (has (members s) p) (p ∷ []) [] (sym c.has.ensures ∙ w.if-has.false))
                ∙ append-nil (members_below s p));
            below = subst (All small) (sym same) inv.below;
            long = ap length w.into-is ∙ size;
          }
    ]

pub returns-clause-listed : goal.returns-clause-listed
returns-clause-listed c =
    let alphabet = c.args.alphabet.now in
    let a = c.args.a.0 in
    let whole = c.processes-p-end.ensures.whole in
    let few = whole.few_processes in
    let set = procs_at alphabet.letters a in
    let n = c.processes-p-end.ensures.value in
    let t = c.loop-p-test.false in
    let i = c.loop-p.auto.p-end in
    let end : c.loop-p.p ≡ alphabet.processes = omega arith in
    c.loop-p.invariant.listed ∙ ap (λ s. members_below s c.loop-p.p) c.loc-takes.ensures ∙ ap (members_below set) end
    ∙ members-fit set alphabet.processes (omega arith) (λ p h. whole.located.below a p c.requires.letter h)
