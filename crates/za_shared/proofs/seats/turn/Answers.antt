use Rattle.std.proofs.Common.{◌≡◌, ℕ, ◌+◌, ◌<◌, ◌==◌, length, cond, ap, ◌∙◌, arith, refl}
use Rattle.std.proofs.lemmas.Bool.{cond-true}
use Rattle.std.proofs.lemmas.List.{length-set}
use Rattle.za_alpha.specs.Words.{has}
use Rattle.za_alpha.specs.Procs.{members, members_below}
use Rattle.za_alpha.proofs.Members.{members_below-zero, members_below-skip, members_below-all, length-members_below-more}
use Rattle.za_shared.specs.Private.Steps.{one, held_by}
use Rattle.za_shared.proofs.Giving.{count-set, given-none, given-skip, given-at, given-in}
use Rattle.za_shared.proofs.Holding.{held-none, held-in, cond-more, cond-none}
use Rattle.za_shared.proofs.seats.turn.Goals as goal

pub members-init : goal.members-init
members-init c =
    let keys = c.args.keys.now in
    record {
      within = omega arith;
      size = refl;
      keys = given-none (members c.args.processes) c.args.key keys;
      counts = λ k.
          let h = held-none keys c.args.processes k in
          let m = ap (λ ps. cond (c.args.key == k) (length ps) 0) (members_below-zero c.args.processes) in
          let z = cond-none (c.args.key == k) in omega arith;
    }

pub members-preserved : goal.members-preserved
members-preserved c =
    let s = c.args.processes in
    let key : ℕ = c.args.key in
    let p : ℕ = c.in-Some.p in
    let start : ℕ = c.members.start in
    let keys = c.args.keys.now in
    let now = c.members.keys in
    let size = c.members.invariant.size in
    let next = c.in-Some.ensures.least in
    let small : p < 16 = c.in-Some.ensures.small in
    let inside : p < length keys = c.requires.within p next.inside in
    let skip = members_below-skip s start p next.after (omega arith) next.below in
    let so_far : (q : ℕ) → _ = λ q. c.members.invariant.keys q ∙ given-skip (members s) key keys start p next.after next.below q in
    record {
      within = omega arith;
      size = length-set now p key ∙ size;
      keys = λ q. given-in (members s) key p keys q now next.inside (omega arith) (so_far q);
      counts = λ k.
          let b = count-set k now p key (omega arith) in
          let d = ap (λ x. one x k) (so_far p ∙ given-at (members s) key p keys) in
          let e = held-in keys s k p small next.inside in
          let es = ap (λ ps. held_by keys ps k) skip in
          let f = c.members.invariant.counts k in
          let m = length-members_below-more s p small in
          let ms = ap length skip in
          let n = cond-true {A = ℕ} (has (members s) p) 1 0 next.inside in
          let g = ap (λ (x : ℕ). cond (key == k) x 0) (let z : length (members_below s (p + 1)) ≡ length (members_below s start) + 1 = omega arith in z) in
          let h = cond-more (key == k) (length (members_below s start)) in omega arith;
    }

pub returns : goal.returns
returns c =
    let s = c.args.processes in
    let keys = c.args.keys.now in
    let few = c.requires.few in
    let within = c.members.invariant.within in
    let none = c.in_default.ensures.least in
    let all = members_below-all s c.members.start (omega arith) none in
    record {
      size = c.members.invariant.size;
      keys = λ q. c.members.invariant.keys q
          ∙ given-skip (members s) c.args.key keys c.members.start (length keys) within (λ r l h. none r l) q;
      counts = λ k.
          let a = c.members.invariant.counts k in
          let b = ap (λ ps. held_by keys ps k) all in
          let d = ap (λ ps. cond (c.args.key == k) (length ps) 0) all in omega arith;
    }
