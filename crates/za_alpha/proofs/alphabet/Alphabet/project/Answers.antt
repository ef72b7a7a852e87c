use Rattle.std.proofs.Common.{ℕ, List, length, arith, sym, subst}
use Rattle.za_alpha.specs.Words.{IsWord}
use Rattle.za_alpha.proofs.Projections.{letter-within}
use Rattle.za_alpha.proofs.alphabet.Alphabet.project.Goals as goal

pub loc-requires : goal.loc-requires
loc-requires c =
    let letters = length c.args.self.now.letters in
    let P : List ℕ → Type 0 = λ w. IsWord letters w in
    letter-within letters c.letters-letters.result.now c.loop-a.a-index _ (subst P (sym c.letters-letters.ensures) c.requires.word) (omega arith)
