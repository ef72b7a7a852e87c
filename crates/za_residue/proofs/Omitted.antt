-- The sets to be left out of the inputs.
use Rattle.std.proofs.Common.{◌≡◌, ℕ, ◌+◌, ◌^◌, ◌<◌, Bool, inl, inr, List, length, get_or, slice_set, sym, ap, subst, ◌∙◌, arith}
use Rattle.std.proofs.lemmas.Bool.{cases_eq}
use Rattle.std.proofs.lemmas.List.{length-set, get_or-set_same, get_or-set_other}
use Rattle.za_alpha.specs.declared.procs.Procs.{Procs}
use Rattle.za_alpha.specs.Words.{has}
use Rattle.za_alpha.specs.Procs.{members, no_process}
use Rattle.za_residue.specs.declared.masks.Masks.{Masks}
use Rattle.za_residue.specs.Private.Turns.{is_omitted, AreOmitted}

-- one input more
pub omitted-more : (masks : Masks) (processes : ℕ) (set : ℕ → Bool) (i : ℕ) (sets : List Procs) (more : Procs) → AreOmitted masks processes set i sets →
    i < length sets →
    more.0 < 2 ^ 16 → ((s : ℕ) → has (members more) s ≡ is_omitted masks processes set i s) → AreOmitted masks processes set (i + 1) (slice_set sets i more)
omitted-more masks processes set i sets more k l small is =
    let long = length-set sets i more in
    let here : get_or (slice_set sets i more) i no_process ≡ more = get_or-set_same sets i more no_process l in
    record {
      room = omega arith;
      small = λ j lj. elim (cases_eq j i) [
        | inl e ↦ let P : ℕ → Type 0 = λ j. (get_or (slice_set sets i more) j no_process).0 < 2 ^ 16 in
            subst P (sym e) (let Q : Procs → Type 0 = λ s. s.0 < 2 ^ 16 in subst Q (sym here) small)
        | inr ne ↦ let Q : Procs → Type 0 = λ s. s.0 < 2 ^ 16 in subst Q (sym (get_or-set_other sets i j more no_process ne)) (k.small j (omega arith))
      ];
      members = λ j s lj. elim (cases_eq j i) [
        | inl e ↦ ap (λ j. has (members (get_or (slice_set sets i more) j no_process)) s) e ∙ ap (λ o. has (members o) s) here ∙ is s
            ∙ ap (λ j. is_omitted masks processes set j s) (sym e)
        | inr ne ↦ ap (λ o. has (members o) s) (get_or-set_other sets i j more no_process ne) ∙ k.members j s (omega arith)
      ];
    }
