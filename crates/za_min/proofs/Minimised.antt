-- What is found and numbered is minimal, and accepts the same words.
use Rattle.std.proofs.Common.{◌≡◌, ◌≢◌, ℕ, ◌<◌, ◌≤◌, inl, inr, List, length, sym, ap, subst, ◌∙◌, arith}
use Rattle.std.proofs.lemmas.Bool.{cases_eq}
use Rattle.za_alpha.specs.Words.{IsWord}
use Rattle.za_dfa.specs.Automata.{Automaton, IsTotal}
use Rattle.za_dfa.specs.Tables.{CompleteDfa, IsComplete, automaton_of}
use Rattle.za_min.specs.Minimal.{word_at, IsMinimal, IsNumberedBy, HaveSameLanguage, IsMinimalOf, IsLeastApart}
use Rattle.za_min.specs.Private.Rounds.{AreAlike, AreClassesOf, IsSplit, split_word}
use Rattle.za_min.specs.Private.Exploring.{merged_of, state_of, AreAllFound, Renumbers}
use Rattle.za_min.proofs.Merge.{merged-accepts, merged-own, merged-told}
use Rattle.za_min.proofs.Renumber.{renumbered-accepts, renumbered-numbered, renumbered-minimal}
use Rattle.za_min.proofs.Split.{split-least}
use Rattle.za_min.proofs.FoundSteps.{classes-total, words-few}

module _ (dfa : CompleteDfa) (classes : List ℕ) (of : AreClassesOf dfa classes) (words : List (List ℕ)) (states : List ℕ)
    (f : AreAllFound (merged_of dfa classes) words states) (e : Automaton) (new : Renumbers (merged_of dfa classes) words e) where
  minimised-language : HaveSameLanguage e (automaton_of dfa)
  minimised-language w h =
      let h' : IsWord (length dfa.alphabet.letters) w = subst (λ n. IsWord n w) new.letters h in
      renumbered-accepts (merged_of dfa classes) words f.done f.found.found f.all e new w h
      ∙ merged-accepts (automaton_of dfa) (classes-total dfa classes of) classes of.stable w h'

  minimised-numbered : IsNumberedBy e words
  minimised-numbered = renumbered-numbered (merged_of dfa classes) words f.done f.found.found f.all e new

  minimised-minimal : IsMinimal e
  minimised-minimal =
      renumbered-minimal (merged_of dfa classes) words f.done f.found.found f.all e new (λ j k jl kl ne.
      let own : (i : ℕ) → i < length words → _ =
      λ i l. merged-own (automaton_of dfa) (classes-total dfa classes of) classes of.stable (word_at words i) (f.found.found.word i l) in
      let oj = own j jl in
      let ok = own k kl in
      merged-told (automaton_of dfa) (classes-total dfa classes of) classes of.stable (state_of (merged_of dfa classes) (word_at words j))
      (state_of (merged_of dfa classes) (word_at words k)) oj.0 ok.0 oj.1 ok.1 ne)

  minimised-no_larger : e.states ≤ dfa.states
  minimised-no_larger = let few = words-few dfa classes of f.done 0 words states f.found in let states = new.states in omega arith

-- the table is the minimal one, numbered by the words
pub record IsMinimised (dfa : CompleteDfa) (words : List (List ℕ)) (table : CompleteDfa) : Type 0 where
  pub minimal : IsMinimalOf table dfa
  pub numbered : IsNumberedBy (automaton_of table) words
  pub no_larger : table.states ≤ dfa.states

pub minimised : (dfa : CompleteDfa) (classes : List ℕ) (of : AreClassesOf dfa classes) (words : List (List ℕ)) (states : List ℕ) →
    AreAllFound (merged_of dfa classes) words states → (table : CompleteDfa) → IsComplete table → table.alphabet ≡ dfa.alphabet →
    Renumbers (merged_of dfa classes) words (automaton_of table) → IsMinimised dfa words table
minimised dfa classes of words states f table whole same new =
    let numbered = minimised-numbered dfa classes of words states f (automaton_of table) new in
    record {
      minimal = record {
        complete = whole;
        alphabet = same;
        language = minimised-language dfa classes of words states f (automaton_of table) new;
        minimal = minimised-minimal dfa classes of words states f (automaton_of table) new;
        access = words;
        numbered = numbered;
      };
      numbered = numbered;
      no_larger = minimised-no_larger dfa classes of words states f (automaton_of table) new;
    }

-- alike states of a minimal automaton are one
pub alike-one : (d : Automaton) (q r : ℕ) → IsMinimal d → q < d.states → r < d.states → AreAlike d q r → q ≡ r
alike-one d q r m ql rl alike =
    elim (cases_eq q r) [
      | inl same ↦ same
      | inr ne ↦ absurd (let w = m.told q r ql rl ne in w.1.apart (alike w.0 w.1.word))
    ]

-- the word that is read off the rounds
pub split-apart : (d : Automaton) → IsTotal d → (n q r : ℕ) (w : List ℕ) → IsSplit d n q r → w ≡ split_word d n q r → (q ≢ r) × IsLeastApart d q r w
split-apart d total n q r w s e = (
  λ same. s.apart (ap (λ x. Rattle.std.specs.Prelude.slice_index (Rattle.za_min.specs.Private.Rounds.rounds d n) x) same),
  subst (IsLeastApart d q r) (sym e) (split-least d total n q r s),
)
