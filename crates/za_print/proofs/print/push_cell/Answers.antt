use Rattle.std.proofs.Common.{◌≡◌, ◌*◌, ◌<◌, ◌∙◌, length, ap, subst, sym, arith}
use Rattle.za_alpha.specs.Alphabet.{DistributedAlphabet}
use Rattle.za_dfa.proofs.GridLemmas.{row_of_cell}
use Rattle.za_print.proofs.print.push_cell.Goals as goal

pub overflow_cast-q : goal.overflow_cast-q
overflow_cast-q c =
    let size : c.letters.result ≡ length c.args.lang.now.table.alphabet.letters =
    c.letters.ensures.value ∙ ap (λ (a : DistributedAlphabet). length a.letters) c.alphabet-alphabet.ensures in
    let inside : c.args.cell < c.args.lang.now.table.states * c.letters.result =
    subst (λ n. c.args.cell < c.args.lang.now.table.states * n) (sym size) c.requires.cell in
    let below = (row_of_cell c.args.cell c.args.lang.now.table.states c.letters.result inside).0 in
    let few = c.requires.few in
    omega arith
