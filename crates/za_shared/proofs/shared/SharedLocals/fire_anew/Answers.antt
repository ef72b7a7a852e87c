use Rattle.std.proofs.Common.{◌≡◌, ℕ, List, length, map, slice_index, sym, ap, subst, ◌∙◌, arith, true}
use Rattle.za_alpha.specs.Words.{has}
use Rattle.za_alpha.specs.Alphabet.{loc_of}
use Rattle.za_shared.specs.Holders.{value, values_at}
use Rattle.za_shared.specs.Records.{Records, AreRecords, IsTransition}
use Rattle.za_shared.specs.Private.Steps.{HasEntered, key_given, last_of}
use Rattle.za_shared.specs.Private.Inside.{own_in}
use Rattle.za_shared.proofs.Firing.{inputs, made-few, made-live, made-transition, made-obtained, fired}
use Rattle.za_shared.proofs.shared.SharedLocals.fire_anew.Goals as goal
use Rattle.za_shared.proofs.shared.SharedLocals.fire_anew.Goals.{After-take_or_compute}

module _ (c : After-take_or_compute) where
  abbrev r : Records
  r = c.args.self.now

  abbrev s : Records
  s = c.take_or_compute.new.self

  whole : AreRecords r
  whole = c.closed-before.ensures.records

  same : c.args.inputs.now ≡ inputs r whole c.args.a.0 c.requires.letter
  same = c.requires.inputs ∙ ap (map (λ p. slice_index r.keys p)) c.requires.participants

  made : IsTransition r.dfa c.args.a.0 (values_at r.shelf r.keys (loc_of r.dfa.alphabet c.args.a.0)) (last_of s.spares)
  made = subst (λ (ps : List ℕ). IsTransition r.dfa c.args.a.0 (values_at r.shelf r.keys ps) (last_of s.spares)) c.requires.participants
      c.take_or_compute.ensures.transition

pub enter-requires-clause-few : goal.enter-requires-clause-few
enter-requires-clause-few c =
    let k = (goal.at.enter-requires-clause-few c).After-take_or_compute in
    let e = ap length (same k) in
    let f = made-few (r k) (whole k) c.args.a.0 c.requires.letter (s k) (s k) c.take_or_compute.ensures.rest (made k) in omega arith

pub enter-requires-clause-live : goal.enter-requires-clause-live
enter-requires-clause-live c = λ n h.
    let k = (goal.at.enter-requires-clause-live c).After-take_or_compute in
    made-live (r k) (whole k) c.args.a.0 c.requires.letter (s k) (s k) c.take_or_compute.ensures.rest (made k) n
    (subst (λ (i : List ℕ). has i n ≡ true) (same k) h)

pub enter-requires-clause-transition : goal.enter-requires-clause-transition
enter-requires-clause-transition c =
    let k = (goal.at.enter-requires-clause-transition c).After-take_or_compute in
    subst (λ (i : List ℕ). IsTransition (s k).dfa c.args.a.0 (map (value (s k).shelf) i) (last_of (s k).spares)) (sym (same k))
    (made-transition (r k) (whole k) c.args.a.0 c.requires.letter (s k) (s k) c.take_or_compute.ensures.rest (made k))

pub returns-in-Some-clause-fired : goal.returns-in-Some-clause-fired
returns-in-Some-clause-fired c =
    let k = (goal.at.returns-in-Some-clause-fired c).After-take_or_compute in
    let t = c.enter.new.self in
    let obtained = made-obtained (r k) (whole k) c.args.a.0 c.requires.letter (s k) t c.take_or_compute.ensures.rest (made k)
    (subst (HasEntered (s k) t c.args.a.0) (same k) c.enter.ensures.entered) in
    fired (r k) (whole k) c.args.a.0 c.requires.letter t c.hand_over.new.self c.in-Some.key obtained
    (ap (λ (x : Records). x.own) (sym c.self.view_is) ∙ ap own_in c.in-Some.is) c.hand_over.ensures.rest c.closed-closed.ensures.records
    (λ p. c.hand_over.ensures.keys p ∙ ap (λ ps. key_given ps c.in-Some.key (length t.keys) t.keys p) c.requires.participants)
    c.hand_over.ensures.values
