use Rattle.std.proofs.Common.{ℕ, List, inl, inr, sym, ◌∙◌, nat_eq}
use Rattle.std.specs.Cmp.Derive.Mapped.{pointwise-map}
use Rattle.std.specs.Cmp.Lexicographic.{same_text, other_text}
use Rattle.std.proofs.lemmas.Bool.{cases_Bool}
use Rattle.za_ids.specs.declared.ids.EventId.{EventId}
use Rattle.za_ids.specs.Numbers.{event_numbers}
use Rattle.za_local.proofs.local.same_events.Goals as goal

pub returns : goal.returns
returns c =
    let a : List ℕ = event_numbers c.args.a.now in
    let b : List ℕ = event_numbers c.args.b.now in
    let e = c.eq.ensures ∙ sym (pointwise-map (λ (id : EventId). id.0) nat_eq c.args.a.now c.args.b.now) in (
      (λ h. same_text a b (sym h ∙ e)),
      (λ h. elim (cases_Bool c.eq.result) [ inl t ↦ t | inr f ↦ absurd (other_text a b (sym f ∙ e) h) ]),
    )
