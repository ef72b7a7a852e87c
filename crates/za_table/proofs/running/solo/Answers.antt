use Rattle.std.proofs.Common.{ℕ, ◌++◌, List, length, ap, ◌∙◌}
use Rattle.za_alpha.specs.Alphabet.{loc_of}
use Rattle.za_script.specs.Scripts.{weave}
use Rattle.za_script.specs.ScriptLists.{script_of}
use Rattle.za_script.specs.Rests.{rests}
use Rattle.za_machine.specs.Machine.{State}
use Rattle.za_table.specs.Ends.{EndedState}
use Rattle.za_table.specs.Tables.{Given}
use Rattle.za_table.proofs.running.solo.Goals as goal

-- the word, and then the weave of what it leaves of the scripts
abbrev on : Given → List ℕ → List ℕ
on g w = w ++ weave (loc_of g.dfa.alphabet) (length g.dfa.alphabet.letters) g.dfa.alphabet.processes (rests (loc_of g.dfa.alphabet) (script_of g.scripts) w)

pub returns-clause-word : goal.returns-clause-word
returns-clause-word c =
    let t = c.in_ok-table.table in
    ap (λ (e : EndedState). e.state.journal) c.into_ended.ensures.value ∙ c.finish.ensures.journal
    ∙ ap (λ (g : Given). on g t.state.journal) c.in_ok-table.ensures.given
    ∙ ap (λ (s : State). on (record { dfa = c.args.closed; scripts = c.args.scripts }) s.journal) c.in_ok-table.ensures.state
