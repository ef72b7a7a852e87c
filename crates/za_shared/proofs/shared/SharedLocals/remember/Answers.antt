use Rattle.std.proofs.Common.{◌≡◌, ℕ, ◌<◌, ◌≤◌, ◌==◌, [], ◌∷◌, sym, ap, subst, ◌∙◌, arith, length, map, inl, inr, vec_capacity, true}
use Rattle.std.specs.Prelude.{count_by}
use Rattle.std.proofs.lemmas.Bool.{or_cases, cond-true}
use Rattle.za_alpha.specs.Words.{has}
use Rattle.za_records.specs.Shelf.{count}
use Rattle.za_cache.specs.Lines.{line_key}
use Rattle.za_shared.specs.Holders.{value, is_named}
use Rattle.za_shared.specs.Records.{Records, IsLine, IsTransition, bound}
use Rattle.za_shared.specs.Private.Inside.{records_in, lines_of_rows, cache_in}
use Rattle.za_shared.proofs.Carrying.{count-one}
use Rattle.za_shared.proofs.Marking.{marked-on}
use Rattle.za_shared.proofs.Remembering.{remembered, remembered-old, kept-few}
use Rattle.za_shared.proofs.shared.SharedLocals.remember.Goals as goal

pub invariant_of-self-2 : goal.invariant_of-self-2
invariant_of-self-2 c =
    let i = c.self.inside in
    let r = records_in i in
    let ok = c.self.invariant.records in
    let inputs = c.args.inputs.now in
    let output : ℕ = c.args.output in
    let now = c.args.self.now in
    let same : r ≡ now = c.self.view_is in
    let rows : r.lines ≡ c.in-Some.rows.lines = ap lines_of_rows c.in-Some.is in
    let cache : r.cache ≡ c.in-Some.rows.capacity = ap cache_in c.in-Some.is in
    let held : r.own ≡ output ∷ [] = ap (λ (x : Records). x.own) same ∙ c.requires.held in
    let live : (k : ℕ) → is_named inputs output k ≡ true → 0 < count r.shelf k = λ k n. elim (or_cases (output == k) (has inputs k) n) [
      | inl e ↦
          let a = ok.counts k in
          let b = ap (count_by (λ (x : ℕ). x == k)) held in
          let o = count-one output k in
          let q = cond-true {A = ℕ} (output == k) 1 0 e in omega arith
      | inr m ↦ subst (λ (x : Records). 0 < count x.shelf k) (sym same) (c.requires.live k m)
    ] in
    let is : IsLine r.dfa r.shelf (line_key c.args.a.0 inputs, output) = record {
      short = subst (λ (x : Records). length inputs ≤ x.dfa.alphabet.processes) (sym same) c.requires.few;
      transition = subst (λ (x : Records). IsTransition x.dfa c.args.a.0 (map (value x.shelf) inputs) (value x.shelf output)) (sym same) c.requires.transition;
    } in
    let few = kept-few c.in-Some.rows c.keep-kept.new.self (line_key c.args.a.0 inputs, output) c.keep-kept.result c.keep-kept.ensures
    (let a = ok.lines_few in let b = ap length rows in omega arith) in
    record {
      records = remembered r ok c.hold_line.new.shelf c.let_go_kept.new.shelf c.let_go_kept.new.spares.items
          (line_key c.args.a.0 inputs, output) c.in-Some.rows c.keep-kept.new.self c.keep-kept.result rows cache
          c.hold_line.ensures c.keep-kept.ensures live c.let_go_kept.ensures.fewer is;
      room =
          let a = c.let_go_kept.ensures.capacity in
          let b : bound r.dfa.alphabet.processes c.keep-kept.new.self.capacity ≤ vec_capacity i.spares = subst
          (λ (m : ℕ). bound r.dfa.alphabet.processes m ≤ vec_capacity i.spares) (cache ∙ sym few.1) c.self.invariant.room in omega arith;
      processes = c.self.invariant.processes;
      states = c.self.invariant.states;
      marks = marked-on r.shelf c.let_go_kept.new.shelf i.marks.items
          (remembered-old r ok c.hold_line.new.shelf c.let_go_kept.new.shelf c.let_go_kept.new.spares.items
          (line_key c.args.a.0 inputs, output) c.in-Some.rows c.keep-kept.new.self c.keep-kept.result rows cache
          c.hold_line.ensures c.keep-kept.ensures live c.let_go_kept.ensures.fewer)
          (λ k h. c.let_go_kept.ensures.fewer.values k h ∙ c.hold_line.ensures.values k) c.self.invariant.marks;
    }
