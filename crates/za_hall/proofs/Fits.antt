-- What a table says of its machine.
use Rattle.std.proofs.Common.{[], length, get_or, sym, ap, subst, ◌∙◌, inl, inr}
use Rattle.std.specs.List.{slice_get}
use Rattle.std.proofs.lemmas.Bool.{cases_lt}
use Rattle.std.proofs.lemmas.Option.{slice_get_past, slice_get-get_or, none-some}
use Rattle.std.proofs.lemmas.List.Elements.{All-get_or}
use Rattle.std.proofs.lemmas.List.{get_or_past}
use Rattle.za_script.specs.ScriptLists.{script_of, IsLetterOf}
use Rattle.za_table.specs.Tables.{TableState, IsTable}
use Rattle.za_table.proofs.Keeping as keeping
use Rattle.za_hall.specs.Own.{machine}
use Rattle.za_hall.specs.Rule.{IsFit}
use Rattle.za_hall.proofs.Letters.{same_some}

pub table_fits : (t : TableState) → IsTable t → IsFit (machine t)
table_fits t ok = record {
  alphabet = (keeping.machine t ok).alphabet;
  own = λ p k a e. elim (cases_lt p (length t.given.scripts)) [
    | inl l ↦ elim (cases_lt k (length (script_of t.given.scripts p))) [
      | inl m ↦ let own = All-get_or (IsLetterOf t.given.dfa.alphabet p) (script_of t.given.scripts p) k 0 m (ok.fit.own p l) in
          let same = same_some (get_or (script_of t.given.scripts p) k 0) a (sym (slice_get-get_or (script_of t.given.scripts p) k 0 m) ∙ e) in
          let its = subst (IsLetterOf t.given.dfa.alphabet p) same own in (its.letter, its.own)
      | inr g ↦ absurd (none-some a (sym (slice_get_past (script_of t.given.scripts p) k g) ∙ e))
    ]
    | inr g ↦ absurd (none-some a (sym (ap (λ w. slice_get w k) (get_or_past t.given.scripts p [] g)) ∙ e))
  ];
}
