use Rattle.std.proofs.Common.{◌≤◌, inl, inr, sym, ap, ◌∙◌, arith, length, subst, refl}
use Rattle.std.specs.Prelude.{nat_lt}
use Rattle.std.proofs.lemmas.Bool.{cases_Bool}
use Rattle.std.proofs.lemmas.Bool.Decides.{nat_tests}
use Rattle.za_alpha.specs.Alphabet.{DistributedAlphabet, IsDistributed, loc_of}
use Rattle.za_alpha.proofs.Projections.{projection-outside}
use Rattle.za_alpha.proofs.alphabet.Alphabet.same_trace.Goals as goal

pub returns : goal.returns
returns c =
    let alphabet = c.args.self.now in
    let whole : IsDistributed alphabet = subst IsDistributed c.self.view_is c.self.invariant in
    let size = ap (λ (a : DistributedAlphabet). a.processes) c.self.view_is in (
      (λ yes p.
          elim (cases_Bool (nat_lt p alphabet.processes)) [
            | inl t ↦ c.loop-p.invariant p (let low = size in grind (arith, nat_tests))
            | inr f ↦
                let far : alphabet.processes ≤ p = grind (arith, nat_tests) in
                projection-outside (loc_of alphabet) (length alphabet.letters) alphabet.processes p c.args.u.now whole.located c.requires.first far
                ∙ sym (projection-outside (loc_of alphabet) (length alphabet.letters) alphabet.processes p c.args.v.now whole.located c.requires.second far)
          ]),
      (λ same. refl),
    )
