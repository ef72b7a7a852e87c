use Rattle.std.proofs.Common.{◌≡◌, ℕ, ◌==◌, [], ◌∷◌, List, refl, sym, ap, subst, ◌∙◌, arith, length}
use Rattle.std.specs.Prelude.{count_by}
use Rattle.za_local.specs.Locals.{HasShape}
use Rattle.za_shared.specs.Records.{Records, AreRecords}
use Rattle.za_shared.specs.Private.Inside.{records_in}
use Rattle.za_shared.proofs.Carrying.{carried, count-one}
use Rattle.za_shared.proofs.Marking.{marked-on}
use Rattle.za_shared.proofs.Vectors.{written}
use Rattle.za_shared.proofs.shared.SharedLocals.hand_over.Goals as goal

pub invariant_of-self : goal.invariant_of-self
invariant_of-self c =
    let r = records_in c.self.inside in
    let ok = c.self.invariant.records in
    let key : ℕ = c.args.key in
    let held : r.own ≡ key ∷ [] = ap (λ (x : Records). x.own) c.self.view_is ∙ c.requires.held in
    let now : List ℕ = c.give.new.keys in
    let slice : c.deref_mut.result.now ≡ r.keys = c.deref_mut.ensures.value in
    let size : length now ≡ length r.keys = c.give.ensures.size ∙ ap length slice in
    let is = written c.self.inside.keys now size in
    let one' = c.give.ensures.changed in
    let two = c.let_go.ensures.fewer in
    record {
      records = subst (λ (ks : List ℕ). AreRecords
          (record { dfa = r.dfa; cache = r.cache; shelf = c.let_go.new.shelf; own = []; keys = ks; lines = r.lines; spares = c.let_go.new.spares.items }))
          (sym is)
          (carried r c.let_go.new.shelf [] now r.lines c.let_go.new.spares.items ok
          (λ k.
          let a = one'.counts k in
          let b = two.counts k in
          let d = ok.counts k in
          let e = ap (count_by (λ (x : ℕ). x == k)) held in
          let f = count-one key k in
          let g = ap (count_by (λ (x : ℕ). x == k)) slice in
          let z : count_by (λ (x : ℕ). x == k) [] ≡ 0 = refl in omega arith)
          (λ k h. one'.none_new k (let b = two.counts k in omega arith))
          (λ k h. two.values k h ∙ one'.values k (let b = two.counts k in omega arith))
          r.cache refl (size ∙ ok.keys_size) (omega arith)
          (two.shaped r.dfa.alphabet.processes r.dfa.states
          (λ k h. subst (HasShape r.dfa.alphabet.processes r.dfa.states) (sym (one'.values k h)) (ok.shaped k (one'.none_new k h)))
          (one'.shaped r.dfa.alphabet.processes r.dfa.states ok.shaped ok.spares_shaped))
          (let a = one'.whole in let b = two.whole in omega arith) (two.capacity ∙ one'.capacity) ok.lines_few ok.lines);
      room = let a = c.self.invariant.room in let b = c.give.ensures.capacity in let d = c.let_go.ensures.capacity in omega arith;
      processes = c.self.invariant.processes;
      states = c.self.invariant.states;
      marks = marked-on r.shelf c.let_go.new.shelf c.self.inside.marks.items (λ k h. one'.none_new k (let b = two.counts k in omega arith))
          (λ k h. two.values k h ∙ one'.values k (let b = two.counts k in omega arith)) c.self.invariant.marks;
    }
