-- The shapes of local states.
use Rattle.std.proofs.Common.{ℕ, List, length, refl}
use Rattle.std.proofs.lemmas.List.FromFn.{length-map-range_with_len}
use Rattle.za_alpha.specs.Alphabet.{loc_of}
use Rattle.za_order.specs.Locals.{ids}
use Rattle.za_dfa.specs.Tables.{CompleteDfa}
use Rattle.za_local.specs.Locals.{local_after, HasShape}

-- those after a word are for the processes and states of the automaton
pub shape-after : (d : CompleteDfa) (w : List ℕ) (p : ℕ) → HasShape d.alphabet.processes d.states (local_after d w p)
shape-after d w p = record {
  gossip = length-map-range_with_len (ids (loc_of d.alphabet) d.alphabet.processes w (length w) p).primary 0 d.alphabet.processes;
  processes = refl;
  states = refl;
}
