use Rattle.std.proofs.Common.{◌≡◌, ℕ, zero, suc, ◌+◌, ◌*◌, ◌^◌, ◌<◌, ◌≤◌, ◌++◌, length, take, drop, get_or, ap, ◌∙◌, arith, length-append, length-take}
use Rattle.std.proofs.Common.{length-drop}
use Rattle.std.proofs.Math.Nat.{pow-le-pow_right}
use Rattle.std.proofs.lemmas.Nat.{mul-add-lt, mul-le, pow_pos}
use Rattle.std.proofs.lemmas.List.{get_or_append_left, get_or-take, take-take}
use Rattle.za_residue.proofs.Halves.{twice, halves}
use Rattle.za_residue.proofs.writing.write_identities.Goals as goal
use Rattle.za_residue.proofs.writing.write_identities.Goals.{After-set_count}

-- there is room for the states of one set, and for twice as many sets as were written
one-fits : (p k : ℕ) → k ≤ 2 ^ p * k
one-fits p k = let a = mul-le 1 k (2 ^ p) k (pow_pos p) (omega arith) in omega arith

two-fit : (p n k : ℕ) → p < n → 2 ^ p * k + 2 ^ p * k ≤ 2 ^ n * k
two-fit p n k l =
    let t = twice p in
    let w : 2 ^ (p + 1) ≤ 2 ^ n = pow-le-pow_right {n = 2} (omega arith) (let m : p + 1 ≤ n = omega arith in m) in
    let a = mul-le (2 ^ p + 2 ^ p) k (2 ^ n) k (omega arith) (omega arith) in omega arith

pub slice_bounds-write_identity-end-2 : goal.slice_bounds-write_identity-end-2
slice_bounds-write_identity-end-2 c =
    let a = one-fits c.args.processes c.args.states in
    let s = c.requires.block in
    let l = length-take c.args.states c.args.block.now in omega arith

pub loop-p-init : goal.loop-p-init
loop-p-init c =
    let k : ℕ = c.args.states in
    let front = c.write_identity.new.block in
    let a = one-fits c.args.processes k in
    let s = c.requires.block in
    let l = length-take k c.args.block.now in
    let d = length-drop k c.args.block.now in
    let e = c.write_identity.auto.block in
    let f = length-append front (drop k c.args.block.now) in
    record {
      size = omega arith;
      done = λ m q lm lq.
          let at : m * k + q ≡ q = first m k q lm in
          ap (λ i. get_or (front ++ drop k c.args.block.now) i 0) at ∙ get_or_append_left front (drop k c.args.block.now) 0 q (omega arith)
          ∙ c.write_identity.ensures q (omega arith);
    }
  where
    first : (m k q : ℕ) → m < 1 → m * k + q ≡ q
    first zero k q l = omega arith
    first (suc m) k q l = absurd (omega arith)

half : (c : After-set_count) → (c.set_count.result * c.args.states ≡ 2 ^ c.loop-p.p * c.args.states) ×
    (c.set_count.result * c.args.states + c.set_count.result * c.args.states ≤ length c.loop-p.block)
half c =
    let h = ap (λ m. m * c.args.states) c.set_count.ensures.value in
    let f = two-fit c.loop-p.p c.args.processes c.args.states c.loop-p-test.true in
    let s = c.loop-p.invariant.size in (h, omega arith)

pub slice_bounds-double-end : goal.slice_bounds-double-end
slice_bounds-double-end c = (half (goal.at.slice_bounds-double-end c).After-set_count).1

pub slice_bounds-double-end-in-loop-p : goal.slice_bounds-double-end-in-loop-p
slice_bounds-double-end-in-loop-p c =
    let h = (half (goal.at.slice_bounds-double-end-in-loop-p c).After-set_count).1 in
    let l = length-take (c.set_count.result * c.args.states + c.set_count.result * c.args.states) c.loop-p.block in omega arith

pub double-requires : goal.double-requires
double-requires c =
    let h = (half (goal.at.double-requires c).After-set_count).1 in
    let l = length-take (c.set_count.result * c.args.states + c.set_count.result * c.args.states) c.loop-p.block in omega arith

pub loop-p-preserved : goal.loop-p-preserved
loop-p-preserved c =
    let k : ℕ = c.args.states in
    let p : ℕ = c.loop-p.p in
    let size : ℕ = c.set_count.result * k in
    let block = c.loop-p.block in
    let low = take size block in
    let h = half (goal.at.loop-p-preserved c).After-set_count in
    let same : take size (take (size + size) block) ≡ low = take-take size (size + size) block (omega arith) in
    let both : c.double.new.block ≡ low ++ low = c.double.ensures ∙ ap (λ xs. xs ++ xs) same in
    let long : length low ≡ 2 ^ p * k = let l = length-take size block in let e = h.0 in let f = h.1 in omega arith in
    let rest = drop (size + size) block in
    let count = ap length both in
    let more = length-append low low in
    let in-low : (m q : ℕ) → m < 2 ^ p → q < k → get_or low (m * k + q) 0 ≡ q =
    λ m q lm lq. get_or-take size block (m * k + q) 0 (let l = mul-add-lt m k q (2 ^ p) lm lq in let e = h.0 in omega arith)
    ∙ c.loop-p.invariant.done m q lm lq in
    record {
      size = let a = length-append c.double.new.block rest in let d = length-drop (size + size) block in let s = c.loop-p.invariant.size in let f = h.1 in
          let e = h.0 in omega arith;
      done = λ m q lm lq.
          get_or_append_left c.double.new.block rest 0 (m * k + q)
          (let l = mul-add-lt m k q (2 ^ (p + 1)) lm lq in let t = ap (λ n. n * k) (twice p) in let e = h.0 in omega arith)
          ∙ ap (λ xs. get_or xs (m * k + q) 0) both ∙ halves k p low low long (λ m q v. v ≡ q) in-low in-low m q lm lq;
    }
