-- The residues of a process (Mukund 2012): for each set of processes, what the part of its view that the pasts of its
-- primary entries for the set do not cover does to the states of an automaton.
use Rattle.std.specs.Prelude.{ℕ, List, length}
use Rattle.za_alpha.specs.Alphabet.{loc_of}
use Rattle.za_order.specs.Locals.{residue_word}
use Rattle.za_dfa.specs.Automata.{Automaton, walk}
use Rattle.za_dfa.specs.Tables.{CompleteDfa, automaton_of}
use Rattle.za_residue.specs.Functions.{Functions, functions_by, in_set}

-- the residues of p after the word, for letters with these participants and so many processes
abbrev pub residues_after : (ℕ → List ℕ) → ℕ → Automaton → List ℕ → ℕ → Functions
residues_after loc processes d w p =
    functions_by processes d.states
    (λ number q. walk d.step q (residue_word loc processes w (length w) p (in_set number)))

-- those over a table and its alphabet
abbrev pub table_residues : CompleteDfa → List ℕ → ℕ → Functions
table_residues d w p = residues_after (loc_of d.alphabet) d.alphabet.processes (automaton_of d) w p
