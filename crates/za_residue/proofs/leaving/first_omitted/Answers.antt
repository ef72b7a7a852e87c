use Rattle.std.proofs.Common.{sym, ap, ◌∙◌, arith}
use Rattle.za_alpha.specs.Words.{has}
use Rattle.za_alpha.specs.Procs.{members, no_process}
use Rattle.za_alpha.proofs.Members.{members-zero}
use Rattle.za_residue.proofs.LeftOut.{omitted-none}
use Rattle.za_residue.proofs.leaving.first_omitted.Goals as goal

pub returns : goal.returns
returns c = λ processes.
    let k = c.loop-i.invariant in
    let t = c.loop-i-test.false in
    let e = c.loop-i.auto.i-end in
    record {
      room = let few = c.requires in let long = k.long in omega arith;
      small = λ i l. k.small i (omega arith);
      members = λ i s l. k.members i s (omega arith)
          ∙ sym (omitted-none c.args.masks.now processes (has (members no_process)) i s (λ y. ap (λ ps. has ps y) members-zero));
    }
