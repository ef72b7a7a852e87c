use Rattle.std.proofs.Common.{arith, ap, eqb-true, eq-eqb}
use Rattle.za_alpha.specs.Words.{has}
use Rattle.za_alpha.specs.Procs.{members}
use Rattle.za_alpha.proofs.Members.{members-same}
use Rattle.za_script.proofs.weaving.are_same.Goals as goal

pub returns : goal.returns
returns c =
    let one = c.args.one.0 in
    let other = c.args.other.0 in (
      λ h p. ap (λ n. has (members (record { 0 = n })) p) (eqb-true one other h),
      λ h. eq-eqb one other (members-same one other (omega arith) (omega arith) h),
    )
