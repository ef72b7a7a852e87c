use Rattle.std.proofs.Common.{◌≡◌, ◌≢◌, true, false, sym, ◌∙◌, arith, eqb, inl, inr}
use Rattle.std.specs.Prelude.{bit_and}
use Rattle.std.proofs.lemmas.Nat.{and_le_l}
use Rattle.std.proofs.lemmas.Bool.{cases_Bool}
use Rattle.std.proofs.lemmas.Bool.Decides.{nat_tests}
use Rattle.za_alpha.specs.Words.{meets}
use Rattle.za_alpha.specs.Procs.{members}
use Rattle.za_alpha.proofs.Members.{meets-and, and-meets}
use Rattle.za_alpha.proofs.procs.Procs.meets.Goals as goal

pub returns : goal.returns
returns c =
    let small = and_le_l c.args.self.0 c.args.other.0 in
    elim (cases_Bool (meets (members c.args.self) (members c.args.other))) [
      | inl t ↦ let some : bit_and c.args.self.0 c.args.other.0 ≢ 0 = meets-and c.args.self.0 c.args.other.0 (omega arith) (omega arith) t in
          grind (arith, nat_tests, t)
      | inr f ↦
          elim (cases_Bool (eqb (bit_and c.args.self.0 c.args.other.0) 0)) [
            | inl z ↦ grind (arith, nat_tests, f)
            | inr n ↦
                let some : bit_and c.args.self.0 c.args.other.0 ≢ 0 = grind (arith, nat_tests) in
                let m = and-meets c.args.self.0 c.args.other.0 some (omega arith) in absurd (let e : true ≡ false = sym m ∙ f in cc)
          ]
    ]
