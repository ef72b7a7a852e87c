-- The job that has all that the lines say is the job of the document.
use Rattle.std.proofs.Common.{◌≡◌, ◌∙◌, ap, ℕ, List, length, map}
use Rattle.std.specs.List.{range_with_len}
use Rattle.za_lang.specs.declared.order.Place.{Place}
use Rattle.za_lang.specs.Jobs.{JobData, IsJob}
use Rattle.za_lang.specs.Namings.{Naming}
use Rattle.za_lang.specs.Documents.{Said, Step, script_of_steps, scripts_said}
use Rattle.za_lang.proofs.Whole.{told_whole}
use Rattle.za_expr.specs.Built.{IsJobSaid}
use Rattle.za_expr.specs.Private.Keeping.{IsGoing}

pub going_whole : (place at : Place) (job : JobData) (s : Said) (tokens : List (List ℕ)) → IsJob job → IsGoing place job (record s { place = at }) tokens →
    IsJobSaid s tokens job
going_whole place at job s tokens whole g =
    let is = told_whole job g.told whole g.tells in
    let scripts : scripts_said g.told ≡ scripts_said s =
    ap (λ (xs : List Step). map (script_of_steps xs) (range_with_len 0 (length g.told.naming.names))) g.steps
    ∙ ap (λ (n : Naming). map (script_of_steps s.steps) (range_with_len 0 (length n.names))) g.naming in
    record {
      naming = g.tells.naming ∙ g.naming;
      signs = g.signs;
      expression = g.expression;
      dfa = g.dfa;
      values = g.values;
      lang = ap (λ (j : JobData). j.lang) is ∙ g.lang;
      scripts = ap (λ (j : JobData). j.scripts) is ∙ scripts;
    }
