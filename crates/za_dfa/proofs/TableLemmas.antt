-- What a complete table gives.
use Rattle.std.proofs.Common.{◌+◌, ◌*◌, ◌<◌, length, arith}
use Rattle.std.proofs.lemmas.Bool.Decides.{nat_tests}
use Rattle.std.proofs.lemmas.Nat.{mul-add-lt}
use Rattle.za_dfa.specs.Automata.{IsTotal}
use Rattle.za_dfa.specs.Tables.{CompleteDfa, automaton_of, target_at, IsComplete}

-- the automaton of a complete table is total
pub total_of_complete : (d : CompleteDfa) → IsComplete d → IsTotal (automaton_of d)
total_of_complete d whole =
    record {
      starts = whole.starts;
      steps = λ q a hq ha.
          let inside : q * length d.alphabet.letters + a < length d.targets = let cell = mul-add-lt q (length d.alphabet.letters) a d.states hq ha in let size =
          whole.targets_length in omega arith in
          let below : target_at d q a < d.states = whole.targets_below (q * length d.alphabet.letters + a) 0 inside in
          grind (arith, nat_tests);
    }
