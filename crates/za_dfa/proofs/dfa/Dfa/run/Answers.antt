use Rattle.std.proofs.Common.{ℕ, List, length, arith, sym, subst}
use Rattle.za_alpha.specs.Words.{IsWord}
use Rattle.za_alpha.proofs.Projections.{letter-within}
use Rattle.za_dfa.proofs.dfa.Dfa.run.Goals as goal

pub step-state-requires-clause-letter : goal.step-state-requires-clause-letter
step-state-requires-clause-letter c =
    let letters = length c.args.self.now.alphabet.letters in
    let P : List ℕ → Type 0 = λ w. IsWord letters w in
    letter-within letters c.letters-letters.result.now c.loop-a.a-index _ (subst P (sym c.letters-letters.ensures) c.requires.word) (omega arith)
