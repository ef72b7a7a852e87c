-- Frozen texts: a job, and what its processes know after the first events of its weave.
use Rattle.std.specs.Prelude.{◌≡◌, ℕ, ◌≤◌, List, [], ◌∷◌, ◌++◌, length, map, take}
use Rattle.std.specs.Prelude.{codes, decimal}
use Rattle.std.specs.List.{range_with_len}
use Rattle.za_alpha.specs.Words.{projection}
use Rattle.za_alpha.specs.Alphabet.{loc_of}
use Rattle.za_dfa.specs.Automata.{walk, IsTraceClosed}
use Rattle.za_dfa.specs.Tables.{CompleteDfa, step_of, automaton_of}
use Rattle.za_dfa.specs.Partials.{completion}
use Rattle.za_min.specs.Minimal.{IsMinimalOf}
use Rattle.za_script.specs.Woven.{weave_of}
use Rattle.za_script.specs.Rests.{rest_of}
use Rattle.za_text.specs.Printed.{text_of, number_line}
use Rattle.za_text.specs.ProcessNames.{name_of}
use Rattle.za_lang.specs.Jobs.{JobData}
use Rattle.za_print.specs.Printed.{printed}
use Rattle.za_report.specs.LocalStates.{known_words}

-- the word that the job's scripts weave
abbrev pub woven_of : JobData → List ℕ
woven_of job = weave_of job.lang.alphabet job.scripts

-- its first letters, so many where there are as many, and else all
abbrev pub cut_word : JobData → ℕ → List ℕ
cut_word job k = take k (woven_of job)

-- process p of a name after the word: how many events it has, and what it knows
abbrev pub at_words : CompleteDfa → List ℕ → ℕ → List ℕ → List (List ℕ)
at_words d w p name =
    codes "at" ∷ name ∷ decimal (length (projection (loc_of d.alphabet) p w)) ∷ known_words d w p

abbrev pub at_line : List (List ℕ) → CompleteDfa → List ℕ → ℕ → List (List ℕ)
at_line names d w p = at_words d w p (name_of names p)

-- how many events there were, each process after them, and the end
abbrev pub cut_lines : List (List ℕ) → CompleteDfa → List ℕ → List (List (List ℕ))
cut_lines names d w =
    number_line (codes "cut") (length w)
    ∷ (map (at_line names d w) (range_with_len 0 d.alphabet.processes) ++ (codes "end" ∷ []) ∷ [])

-- the text of a job whose processes are frozen after the word
abbrev pub text_after : JobData → CompleteDfa → List ℕ → List ℕ
text_after job d w = printed job ++ text_of (cut_lines job.naming.names d w)

-- the frozen text of a job with the automaton d, after the first k letters of the weave
abbrev pub frozen_text : JobData → CompleteDfa → ℕ → List ℕ
frozen_text job d k = text_after job d (cut_word job k)

-- the job's language is trace-closed, and this is its minimal automaton
pub record IsAutomatonOf (job : JobData) (d : CompleteDfa) : Type 0 where
  pub minimal : IsMinimalOf d (completion job.lang)
  pub closed : IsTraceClosed (loc_of job.lang.alphabet) (automaton_of (completion job.lang))

-- the automaton of what is left of the language after the word: it starts at the state after the word
abbrev pub after_word : CompleteDfa → List ℕ → CompleteDfa
after_word d w = record d { start = walk (step_of d) d.start w }

-- the text is that of the job, frozen after so many events, and these are the automaton and the scripts of what is left
pub record IsThawed (bytes : List ℕ) (job : JobData) (closed : CompleteDfa) (scripts : List (List ℕ)) : Type 0 where
  pub cut : ℕ
  pub within : cut ≤ length (woven_of job)
  pub dfa : CompleteDfa
  pub automaton : IsAutomatonOf job dfa
  pub text : bytes ≡ frozen_text job dfa cut
  pub started : closed ≡ after_word dfa (cut_word job cut)
  pub rest : scripts ≡ rest_of job.lang.alphabet job.scripts (cut_word job cut)
