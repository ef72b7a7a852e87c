use Rattle.std.proofs.Common.{◌≡◌, true, false, ap, sym, ◌∙◌, arith, eqb}
use Rattle.std.specs.Prelude.{nat_lt}
use Rattle.std.specs.Int.{bit_at}
use Rattle.std.proofs.lemmas.Bool.Decides.{nat_tests}
use Rattle.std.proofs.lemmas.Nat.Bits.{shr_and_one}
use Rattle.za_alpha.proofs.Members.{has-members, and-true, and-false}
use Rattle.za_alpha.proofs.procs.Procs.has.Goals as goal

pub returns-then-p-lt-WIDTH : goal.returns-then-p-lt-WIDTH
returns-then-p-lt-WIDTH c =
    let low : nat_lt c.args.p 16 ≡ true = grind (arith, nat_tests) in
    ap (λ n. eqb n 1) (shr_and_one c.args.self.0 c.args.p) ∙ sym (has-members c.args.self c.args.p ∙ rw low (and-true (eqb (bit_at c.args.self.0 c.args.p) 1)))

pub returns-else-p-lt-WIDTH : goal.returns-else-p-lt-WIDTH
returns-else-p-lt-WIDTH c =
    let high : nat_lt c.args.p 16 ≡ false = grind (arith, nat_tests) in
    high ∙ sym (has-members c.args.self c.args.p ∙ rw high (and-false (eqb (bit_at c.args.self.0 c.args.p) 1)))
