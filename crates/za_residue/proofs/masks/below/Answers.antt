use Rattle.std.proofs.Common.{◌≡◌, ℕ, ◌<◌, ◌==◌, ◌&&◌, Bool, not, List, length, sym, ap, ◌∙◌, arith}
use Rattle.std.proofs.lemmas.List.{length-map, get_or-map}
use Rattle.za_alpha.specs.Words.{has}
use Rattle.za_alpha.specs.Procs.{members}
use Rattle.za_ids.specs.declared.ids.EventId.{EventId}
use Rattle.za_ids.specs.Numbers.{event_numbers}
use Rattle.za_residue.proofs.Shared.{test, shared-in, shared-out}
use Rattle.za_residue.proofs.masks.below.Goals as goal
use Rattle.za_residue.proofs.masks.below.Goals.{Joined-stands_in, then-stands_in, else-stands_in}

-- the entry is one of the row
here : (c : Joined-stands_in) → c.loop-s.s < length (event_numbers c.args.primary.now)
here c = let e = length-map c.args.primary.now (λ (id : EventId). id.0) in let l = c.loop-s-test.true in omega arith

-- the test of the entry
tested : (c : Joined-stands_in) → c.stands_in.result ≡ test (event_numbers c.args.primary.now) (event_numbers c.args.other.now) c.loop-s.s (here c)
tested c =
    let entry : ℕ → Bool = λ v. not (v == 0) && has (event_numbers c.args.other.now) v in
    c.stands_in.ensures ∙ ap entry (sym (get_or-map (λ (id : EventId). id.0) c.args.primary.now c.loop-s.s (record { 0 = 0 }) 0 c.loop-s-test.true))

pub loop-s-preserved : goal.loop-s-preserved
loop-s-preserved c =
    let primary : List ℕ = event_numbers c.args.primary.now in
    let other : List ℕ = event_numbers c.args.other.now in
    elim c.if-stands_in.branch [
      | then-stands_in w ↦ λ k.
          ap (λ o. has (members o) k) w.shared-is ∙ w.with-shared.ensures.joined k
          ∙ shared-in primary other c.loop-s.s (here c) k (has (members c.loop-s.shared) k) (c.loop-s.invariant k) (sym (tested c) ∙ w.if-stands_in.true)
      | else-stands_in w ↦ λ k.
          ap (λ o. has (members o) k) w.shared-is
          ∙ shared-out primary other c.loop-s.s (here c) k (has (members c.loop-s.shared) k) (c.loop-s.invariant k) (sym (tested c) ∙ w.if-stands_in.false)
    ]
