-- A document has one job and one built text at most.
use Rattle.std.proofs.Common.{◌≡◌, ◌∙◌, ap, sym, subst, ℕ, List, Some, None}
use Rattle.za_text.specs.Lines.{lines_of}
use Rattle.za_dfa.specs.Partials.{PartialDfa, whole_of}
use Rattle.za_lang.specs.declared.version.Version.TheVariants.{Two}
use Rattle.za_lang.specs.Jobs.{JobData}
use Rattle.za_lang.specs.Namings.{Naming}
use Rattle.za_lang.specs.Documents.{Said, said, job_of}
use Rattle.za_print.specs.Printed.{printed}
use Rattle.za_form.specs.Automata.{IsValueDfa}
use Rattle.za_form.proofs.OneTable.{one_table}
use Rattle.za_expr.specs.Documents.{tokens_in}
use Rattle.za_expr.specs.Built.{alphabet_said, IsJobSaid}
use Rattle.za_expr.specs.Laws.{DocumentsHaveOneJob, BuiltOnce, BuiltHaveNoFault}
use Rattle.za_expr.proofs.OneFault.{one_signs, texts_have_one_fault}

one_job : (s : Said) (tokens : List (List ℕ)) (a b : JobData) → IsJobSaid s tokens a → IsJobSaid s tokens b → a ≡ b
one_job s tokens a b h k =
    let signs = one_signs s.letters tokens h.signs k.signs h.expression.each k.expression.each in
    let table = one_table (alphabet_said s) k.signs h.dfa k.dfa (subst (λ xs. IsValueDfa (alphabet_said s) xs h.dfa) signs h.values) k.values in
    let of : Naming → PartialDfa → List (List ℕ) → JobData = λ naming lang scripts. record { naming = naming; lang = lang; scripts = scripts } in
    ap (λ naming. of naming a.lang a.scripts) (h.naming ∙ sym k.naming)
    ∙ ap (λ lang. of b.naming lang a.scripts) (h.lang ∙ ap whole_of table ∙ sym k.lang)
    ∙ ap (of b.naming b.lang) (h.scripts ∙ sym k.scripts)

pub documents_have_one_job : DocumentsHaveOneJob
documents_have_one_job bytes a b h k = one_job (said Two (lines_of bytes)) (tokens_in (lines_of bytes)) a b h k

pub built_once : BuiltOnce
built_once bytes s t h k = h.printed_form ∙ ap printed (documents_have_one_job bytes (job_of s) (job_of t) h.job k.job) ∙ sym k.printed_form

pub built_have_no_fault : BuiltHaveNoFault
built_have_no_fault bytes text fault h k = let no : None ≡ Some fault = texts_have_one_fault bytes None (Some fault) h.right k in cc
