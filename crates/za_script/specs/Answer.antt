-- The answer of an automaton to scripts.
use Rattle.std.specs.Prelude.{ℕ, List, IsTrue, IsFalse, if◌then◌else◌}
use Rattle.za_dfa.specs.Automata.{Automaton, is_accepted}
use Rattle.za_script.specs.declared.answer.Answer.{Answer}
use Rattle.za_script.specs.declared.answer.Answer.TheVariants.{Accept, Reject, Stuck}
use Rattle.za_script.specs.Scripts.{Weaves}
use Rattle.za_script.specs.Woven.{WovenWord}

-- accept: some word that weaves the scripts is accepted; reject: some word weaves them, and none that
-- does is accepted; stuck: no word weaves them
abbrev pub IsAnswer : (ℕ → List ℕ) → Automaton → (ℕ → List ℕ) → Answer → Type 0
IsAnswer loc d scripts Accept = (w : List ℕ) × Weaves loc d.letters scripts w × IsTrue (is_accepted d w)
IsAnswer loc d scripts Reject =
    ((w : List ℕ) × Weaves loc d.letters scripts w) ×
    ((w : List ℕ) → Weaves loc d.letters scripts w → IsFalse (is_accepted d w))
IsAnswer loc d scripts Stuck = (w : List ℕ) → Weaves loc d.letters scripts w → ⊥

-- the answer that a woven word gives: stuck where scripts are left, else as the automaton says of the word
abbrev pub answer_by : Automaton → WovenWord → Answer
answer_by d woven = if woven.whole then (if is_accepted d woven.word then Accept else Reject) else Stuck
