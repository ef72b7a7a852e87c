-- What is left of scripts and of a language after a word.
use Rattle.std.specs.Prelude.{ℕ, List, length, drop, map}
use Rattle.std.specs.List.{range_with_len}
use Rattle.za_alpha.specs.Words.{projection}
use Rattle.za_alpha.specs.Alphabet.{DistributedAlphabet, loc_of}
use Rattle.za_dfa.specs.Automata.{Automaton, walk}
use Rattle.za_script.specs.ScriptLists.{script_of}

-- what is left of each script after the word: without as many letters as the word has of the process
abbrev pub rests : (ℕ → List ℕ) → (ℕ → List ℕ) → List ℕ → ℕ → List ℕ
rests loc scripts w p = drop (length (projection loc p w)) (scripts p)

-- that of the scripts of all processes in order
abbrev pub rest_of : DistributedAlphabet → List (List ℕ) → List ℕ → List (List ℕ)
rest_of alphabet scripts w = map (rests (loc_of alphabet) (script_of scripts) w) (range_with_len 0 (length scripts))

-- the same table with another start
abbrev pub started_at : Automaton → ℕ → Automaton
started_at d q = record { states = d.states; letters = d.letters; start = q; step = d.step; accepts = d.accepts }

-- the language of the words v for which wv is accepted
abbrev pub after : Automaton → List ℕ → Automaton
after d w = started_at d (walk d.step d.start w)
