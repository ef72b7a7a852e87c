use Rattle.std.proofs.Common.{◌≡◌, ◌≢◌, ◌<◌, ℕ, List, Option, Some, None, length, length-set, cond, sym, ap, ◌∙◌, arith, below_more}
use Rattle.std.proofs.Common.{get_or-set_same, get_or-set_other}
use Rattle.std.proofs.lemmas.Bool.{cond-true, cond-false}
use Rattle.za_alpha.specs.Words.{has}
use Rattle.za_alpha.specs.Procs.{members}
use Rattle.za_alpha.specs.Alphabet.{loc_of}
use Rattle.za_payload.specs.Circles.{known_in}
use Rattle.za_payload.specs.Private.Meeting.{best_of}
use Rattle.za_payload.proofs.meeting.heard.Goals as goal
use Rattle.za_payload.proofs.meeting.heard.Goals.{then-has, else-has}

pub loop-q-preserved : goal.loop-q-preserved
loop-q-preserved c =
    let q : ℕ = c.loop-q.q in
    let old : List (Option ℕ) = c.loop-q.heard in
    let loc = loc_of c.args.alphabet.now in
    let few = c.processes-q-end.ensures.whole.few_processes in
    let n = c.processes-q-end.ensures.value in
    let t = c.loop-q-test.true in
    let long = c.loop-q.invariant.long in
    let takes : has (loc c.args.a.0) q ≡ c.has.result = ap (λ s. has (members s) q) (sym c.loc-takes.ensures) ∙ sym c.has.ensures in
    record {
      long = length-set old q c.if-has.heard ∙ long;
      made = λ w after.
          let b : ℕ → Option ℕ = λ k. known_in c.args.known.now (best_of c.args.alphabet.now w c.args.a.0 k) k in
          let at-q : c.if-has.heard ≡ cond (has (loc c.args.a.0) q) (Some c.args.value) (b q) = elim c.if-has.branch [
            | then-has v ↦ v.heard-is ∙ sym (cond-true (has (loc c.args.a.0) q) (Some c.args.value) (b q) (takes ∙ v.if-has.true))
            | else-has v ↦
                v.heard-is ∙ v.heard_of.ensures w after
                ∙ sym (cond-false (has (loc c.args.a.0) q) (Some c.args.value) (b q) (takes ∙ v.if-has.false))
          ] in
          below_more _ _
          (λ k l. let other : k ≢ q = omega arith in get_or-set_other old q k c.if-has.heard None other ∙ c.loop-q.invariant.made w after k l)
          (let there : q < length old = omega arith in get_or-set_same old q c.if-has.heard None there ∙ at-q);
    }
