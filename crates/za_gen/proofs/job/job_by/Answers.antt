use Rattle.std.proofs.Common.{◌≡◌, ℕ, sym, ap, subst, ◌∙◌}
use Rattle.za_alpha.specs.Alphabet.{DistributedAlphabet}
use Rattle.za_dfa.specs.Tables.{CompleteDfa, IsComplete, table_with}
use Rattle.za_dfa.specs.Partials.{whole_of}
use Rattle.za_script.specs.ScriptLists.{FitAlphabet}
use Rattle.za_text.specs.ProcessNames.{numbered}
use Rattle.za_lang.specs.declared.version.Version.TheVariants.{One}
use Rattle.za_lang.specs.Namings.{LangData}
use Rattle.za_gen.specs.Generated.{generated_naming, generated_alphabet, generated_targets, accepting_at, generated_dfa, generated_scripts}
use Rattle.za_gen.proofs.Tables.{generated-complete}
use Rattle.za_gen.proofs.Fitting.{generated-fit, same-table, same-job}
use Rattle.za_gen.proofs.job.job_by.Goals as goal

pub of_table-dfa-requires : goal.of_table-dfa-requires
of_table-dfa-requires c =
    subst IsComplete
    (sym (same-table c.in_ok-alphabet.alphabet generated_alphabet c.in_ok-accepting.accepting.items
    (accepting_at c.reached.result) c.in_ok-targets.targets.items generated_targets
    c.in_ok-alphabet.ensures c.in_ok-accepting.ensures c.in_ok-targets.ensures))
    (generated-complete c.reached.result)

pub returns-clause-value : goal.returns-clause-value
returns-clause-value c =
    let w = c.args.word.now in
    let dfa : c.of_table-dfa.result ≡ generated_dfa w = c.of_table-dfa.ensures
    ∙ same-table c.in_ok-alphabet.alphabet generated_alphabet c.in_ok-accepting.accepting.items
    (accepting_at c.reached.result) c.in_ok-targets.targets.items generated_targets
    c.in_ok-alphabet.ensures c.in_ok-accepting.ensures c.in_ok-targets.ensures
    ∙ ap (λ (q : ℕ). table_with generated_alphabet 0 (accepting_at q) generated_targets) c.reached.ensures.value in
    same-job c.in_ok-lang.lang (record { naming = generated_naming; table = whole_of (generated_dfa w) }) c.in_ok-scripts.scripts (generated_scripts w)
    (c.in_ok-lang.ensures ∙ ap (λ (d : CompleteDfa). let lang : LangData =
    record { naming = record { version = One; names = numbered d.alphabet.processes }; table = whole_of d } in lang) dfa)
    c.in_ok-scripts.ensures

pub returns-clause-fit : goal.returns-clause-fit
returns-clause-fit c =
    let alphabet : c.in_ok-lang.lang.table.alphabet ≡ generated_alphabet =
    ap (λ (l : LangData). l.table.alphabet) c.in_ok-lang.ensures ∙ ap (λ (d : CompleteDfa). d.alphabet) c.of_table-dfa.ensures ∙ c.in_ok-alphabet.ensures in
    subst (λ (x : DistributedAlphabet). FitAlphabet x c.in_ok-scripts.scripts) (sym alphabet)
    (subst (FitAlphabet generated_alphabet) (sym c.in_ok-scripts.ensures) (generated-fit c.args.word.now c.requires.word))
