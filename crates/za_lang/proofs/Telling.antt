-- What the job has after a line that is right.
use Rattle.std.proofs.Common.{◌≡◌, ℕ, ◌<◌, true, false, List, [], ◌∷◌, ◌++◌, length, map, refl, sym, ap, subst, ◌∙◌, arith, inl, inr, length-append, Some}
use Rattle.std.specs.Prelude.{◌==◌}
use Rattle.std.specs.List.{filter, filter_map}
use Rattle.std.proofs.lemmas.Bool.{cases_eq}
use Rattle.std.proofs.lemmas.Bool.Decides.{nat_tests}
use Rattle.std.proofs.lemmas.List.{append-nil, map-append, length-map}
use Rattle.std.proofs.lemmas.List.Elements.{filter-append}
use Rattle.za_text.specs.Numbers.{numeral_value}
use Rattle.za_script.specs.ScriptLists.{script_of}
use Rattle.za_lang.specs.declared.order.Head.TheVariants as head
use Rattle.za_lang.specs.declared.order.Place.TheVariants.{AtRows, AtScripts}
use Rattle.za_lang.specs.Items.{letters_of_items}
use Rattle.za_lang.specs.Jobs.{JobData}
use Rattle.za_lang.specs.Tests.{process_at}
use Rattle.za_lang.specs.Documents.{Said, Step, script_of_steps}
use Rattle.za_lang.specs.Gathering.{more_said, marked, AreAdded, Tells}
use Rattle.za_lang.proofs.Marks.{marked_all}
use Rattle.za_lang.proofs.Added.{added_same, added_other}

-- an accept line
pub accept_told : (job : JobData) (s : Said) (words : List (List ℕ)) → Tells job s →
    Tells (record job { lang = record job.lang { accepting = marked job.lang.accepting (filter_map numeral_value words) } }) (more_said s head.Accept words)
accept_told job s words h =
    let new : JobData = record job { lang = record job.lang { accepting = marked job.lang.accepting (filter_map numeral_value words) } } in
    let t : Said = record s { place = AtRows; accepts = s.accepts ++ filter_map numeral_value words } in
    let same : t ≡ more_said s head.Accept words = simp append-nil in
    let own : Tells new t = record {
      naming = h.naming;
      processes = h.processes;
      letters = h.letters;
      states = h.states;
      start = h.start;
      accepting = ap (λ bs. marked bs (filter_map numeral_value words)) h.accepting ∙ marked_all s.states s.accepts (filter_map numeral_value words);
      rows = record { cells = h.rows.cells; right = h.rows.right };
      steps = h.steps;
      total = h.total;
    } in
    subst (Tells new) same own

joined_append : (xs ys : List Step) (q : ℕ) → script_of_steps (xs ++ ys) q ≡ script_of_steps xs q ++ script_of_steps ys q
joined_append xs ys q =
    ap (map (λ (step : Step). step.letter)) (filter-append (λ (step : Step). step.process == q) xs ys)
    ∙ map-append (λ (step : Step). step.letter) (filter (λ (step : Step). step.process == q) xs) (filter (λ (step : Step). step.process == q) ys)

-- the steps of a process
abbrev pub steps_at : ℕ → List ℕ → List Step
steps_at p found = map (λ (a : ℕ). record { process = p; letter = a }) found

-- the letters that a script line says, for its process
joined_own : (p q : ℕ) (found : List ℕ) → (p == q) ≡ true → script_of_steps (steps_at p found) q ≡ found
joined_own p q [] e = refl
joined_own p q (a ∷ found) e = rw e (ap (λ xs. a ∷ xs) (joined_own p q found e))

-- and for another
joined_other : (p q : ℕ) (found : List ℕ) → (p == q) ≡ false → script_of_steps (steps_at p found) q ≡ []
joined_other p q [] e = refl
joined_other p q (a ∷ found) e = rw e (joined_other p q found e)

-- a script line
pub script_told : (job : JobData) (new : List (List ℕ)) (s : Said) (word : List ℕ) (words : List (List ℕ)) (p : ℕ) → Tells job s → p < length job.scripts →
    process_at s.naming word ≡ Some p →
    AreAdded job.lang.alphabet job.scripts new p (letters_of_items s.naming.version s.letters words) →
    Tells (record job { scripts = new }) (more_said s head.Script (word ∷ words))
script_told job new s word words p h inside e added =
    let found = letters_of_items s.naming.version s.letters words in
    let more = steps_at p found in
    let t : Said = record s { place = AtScripts; steps = s.steps ++ more } in
    let same : t ≡ more_said s head.Script (word ∷ words) = rw e (simp append-nil) in
    let put : JobData = record job { scripts = new } in
    let own : Tells put t = record {
      naming = h.naming;
      processes = h.processes;
      letters = h.letters;
      states = h.states;
      start = h.start;
      accepting = h.accepting;
      rows = h.rows;
      steps = λ q k.
          elim (cases_eq q p) [
            | inl same_process ↦
                let yes : (p == q) ≡ true = grind (arith, nat_tests) in
                ap (script_of new) same_process ∙ added_same job.lang.alphabet job.scripts new p found inside added
                ∙ ap (λ xs. xs ++ found) (ap (script_of job.scripts) (sym same_process) ∙ h.steps q k)
                ∙ sym (joined_append s.steps more q ∙ ap (λ xs. script_of_steps s.steps q ++ xs) (joined_own p q found yes))
            | inr other ↦
                let no : (p == q) ≡ false = grind (arith, nat_tests) in
                added_other job.lang.alphabet job.scripts new p q found other added ∙ h.steps q k
                ∙ sym (joined_append s.steps more q ∙ ap (λ xs. script_of_steps s.steps q ++ xs) (joined_other p q found no)
                ∙ append-nil (script_of_steps s.steps q))
          ];
      total = let a = added.total in let b = h.total in let c : length more ≡ length found = length-map found (λ (a : ℕ). record { process = p; letter = a }) in
          let d = length-append s.steps more in omega arith;
    } in
    subst (Tells put) same own
