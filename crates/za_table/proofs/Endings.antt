-- What a table that is over leaves.
use Rattle.std.proofs.Common.{◌≡◌, ℕ, List, sym, subst, ◌∙◌, arith}
use Rattle.std.proofs.lemmas.List.{length-map}
use Rattle.za_alpha.specs.declared.word.Letter.{Letter}
use Rattle.za_alpha.specs.Letters.{numbers}
use Rattle.za_alpha.specs.Alphabet.{loc_of}
use Rattle.za_dfa.specs.Tables.{automaton_of}
use Rattle.za_script.specs.declared.answer.Answer.{Answer}
use Rattle.za_script.specs.ScriptLists.{script_of}
use Rattle.za_script.specs.Answer.{IsAnswer}
use Rattle.za_machine.specs.Machine.{IsOver}
use Rattle.za_machine.specs.Answer.{answer_at}
use Rattle.za_table.specs.declared.table.Table.TheInside as Table
use Rattle.za_table.specs.declared.ended.Ended.TheInside as Ended
use Rattle.za_table.specs.Tables.{machine_of}
use Rattle.za_table.specs.Private.Inside.{given_in, state_in, IsTableInside, IsEndedInside}

module _ (t : Table.Inside) (ok : IsTableInside t) (answer : Answer) (over : IsOver (machine_of (given_in t)) (state_in t))
    (value : answer ≡ answer_at (automaton_of t.shared.dfa) (state_in t)) (correct : IsAnswer (loc_of t.shared.dfa.alphabet) (automaton_of t.shared.dfa)
    (script_of t.scripts) answer) where
  abbrev pub ended : List ℕ → Ended.Inside
  ended word = record {
    shared = t.shared;
    scripts = t.scripts;
    word = word;
    labels = t.progress.labels;
    arrived = t.progress.arrived;
    ended = t.progress.ended;
    counts = t.progress.counts;
    answer = answer;
  }

  of-journal : IsEndedInside (ended (numbers t.progress.journal.items))
  of-journal = record {
    over = record { reached = ok.table.reached; over = over };
    answer = value;
    correct = correct;
    labels_size = ok.progress.labels_size ∙ sym (length-map t.progress.journal.items (λ (l : Letter). l.0));
    labels = λ i l. ok.progress.labels i (let e = length-map t.progress.journal.items (λ (a : Letter). a.0) in omega arith);
    counts_size = ok.progress.counts_size;
    counts = ok.progress.counts;
    locals = ok.table.locals;
  }

  pub of-word : (word : List ℕ) → word ≡ numbers t.progress.journal.items → IsEndedInside (ended word)
  of-word word e = subst (λ (w : List ℕ). IsEndedInside (ended w)) (sym e) of-journal
