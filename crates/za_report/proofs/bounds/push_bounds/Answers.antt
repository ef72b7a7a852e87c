use Rattle.std.proofs.Common.{◌≤◌, arith}
use Rattle.za_alpha.specs.Limits.{most_processes, most_letters}
use Rattle.za_ids.proofs.Numbers.{cube-small}
use Rattle.za_report.proofs.BoundLemmas.{labels-small}
use Rattle.za_report.proofs.bounds.push_bounds.Goals as goal

pub pow-requires : goal.pow-requires
pow-requires c =
    let few = c.processes-n.ensures.whole.few_processes in
    let small : c.processes-n.result ≤ most_processes = omega arith in
    omega (arith, cube-small c.processes-n.result small)

pub overflow_add-pow : goal.overflow_add-pow
overflow_add-pow c =
    let few = c.processes-n.ensures.whole.few_processes in
    let small : c.processes-n.result ≤ most_processes = omega arith in
    omega (arith, cube-small c.processes-n.result small)

pub overflow_mul-letters : goal.overflow_mul-letters
overflow_mul-letters c =
    let few = c.processes-n.ensures.whole.few_processes in
    let small : c.processes-n.result ≤ most_processes = omega arith in
    let letters = c.letters.ensures.whole.few_letters in
    let bound : c.letters.result ≤ most_letters = omega arith in
    let cubed = labels-small c.letters.result c.processes-n.result bound small in
    rw c.pow.ensures (omega (arith, cubed))
