-- The program runs the asynchronous automaton of its local states.
use Rattle.std.proofs.Common.{◌≡◌, ℕ, ◌<◌, true, List, [], ◌∷◌, ◌++◌, length, map, sym, ap, ◌∙◌}
use Rattle.std.proofs.lemmas.Bool.{cond-true}
use Rattle.std.proofs.lemmas.Simd.{map-map}
use Rattle.std.proofs.lemmas.List.Elements.{All-nil}
use Rattle.za_alpha.specs.Words.{has}
use Rattle.za_alpha.specs.Alphabet.{loc_of}
use Rattle.za_order.proofs.NextLetter.{word-next}
use Rattle.za_dfa.specs.Tables.{CompleteDfa, automaton_of}
use Rattle.za_dfa.proofs.Diamonds.{walk-append}
use Rattle.za_dfa.proofs.TableLemmas.{total_of_complete}
use Rattle.za_local.specs.Locals.{LocalState, local_after, all_processes, AreLocalsAfter}
use Rattle.za_theorem.specs.Asynchronous.{Asynchronous, moved, global_after}
use Rattle.za_theorem.specs.Machine.{IsOfLocals, table_code, IsRun}
use Rattle.za_theorem.specs.Laws.{ProgramRunsTheAutomaton}
use Rattle.za_theorem.proofs.Moves.{map-agree}
use Rattle.za_theorem.proofs.Theorem.{diamonds_give_asynchronous}

module _ (d : CompleteDfa) (z : Asynchronous) (of : IsOfLocals (loc_of d.alphabet) d.alphabet.processes (automaton_of d) z) where
  abbrev loc : ℕ → List ℕ
  loc = loc_of d.alphabet

  abbrev letters : ℕ
  letters = length d.alphabet.letters

  -- the numbers of local states of some processes after a word
  codes : (w xs : List ℕ) (locals : List LocalState) → AreLocalsAfter d w xs locals → map (table_code d) locals ≡ map (global_after loc z w) xs
  codes w xs locals given =
      ap (map (table_code d)) given.locals
      ∙ map-map (table_code d) (local_after d w) xs
      ∙ map-agree (λ p. table_code d (local_after d w p)) (global_after loc z w) xs (λ p h. sym (of.locals w p given.word))

  transit-is : (w : List ℕ) (a : ℕ) (locals : List LocalState) → a < letters → AreLocalsAfter d w (loc a) locals → (x : ℕ) → has (loc a) x ≡ true →
      z.next a (map (table_code d) locals) x ≡ table_code d (local_after d (w ++ a ∷ []) x)
  transit-is w a locals small given x h =
      let g = global_after loc z w in
      ap (λ xs. z.next a xs x) (codes w (loc a) locals given)
      ∙ sym (cond-true (has (loc a) x) (z.next a (map g (loc a)) x) (g x) h)
      ∙ sym (ap (λ f. f x) (walk-append (moved loc z) z.start w (a ∷ [])))
      ∙ of.locals (w ++ a ∷ []) x (word-next letters w a given.word small)

  run : IsRun d z
  run = record {
    opening = λ p. of.locals [] p (All-nil (λ a. a < letters));
    transit = transit-is;
    verdict = λ w locals given. ap z.accepts (codes w (all_processes d) locals given) ∙ of.accepts.words w given.word;
  }

pub program_runs_the_automaton : ProgramRunsTheAutomaton
program_runs_the_automaton d whole diamonds =
    let r = diamonds_give_asynchronous (loc_of d.alphabet) d.alphabet.processes (automaton_of d)
    (record { alphabet = whole.distributed.located; total = total_of_complete d whole; diamonds = diamonds }) in
    (r.0, r.1, run d r.0 r.1)
