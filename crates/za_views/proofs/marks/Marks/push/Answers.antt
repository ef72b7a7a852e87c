use Rattle.std.proofs.Common.{◌≡◌, ◌<◌, List, ℕ, [], ◌∷◌, ◌++◌, length, sym, ap, subst, ◌∙◌, arith, refl}
use Rattle.std.proofs.lemmas.List.{length-map, map_push}
use Rattle.za_views.specs.Marks.{MarkedWord}
use Rattle.za_views.specs.Private.Kept.{word_of_events}
use Rattle.za_views.specs.declared.events.Event.{Event}
use Rattle.za_views.proofs.PushedMarks.{push-of, some-takes, own-events, least-event, labelled-events, pushed-label, pushed-marked, pushed-word, pushed-short}
use Rattle.za_views.proofs.PushedMarks.{label-seen}
use Rattle.za_views.proofs.marks.Marks.push.Goals as goal

pub past_of_next-past-requires-clause-within : goal.past_of_next-past-requires-clause-within
past_of_next-past-requires-clause-within c =
    let push = push-of c.self.invariant c.self.view_is c.processes-processes.ensures.value c.loc-takes.ensures c.as_slice-events.ensures.value
    c.requires.letter in
    own-events push

pub own_of_least-own-requires-clause-some : goal.own_of_least-own-requires-clause-some
own_of_least-own-requires-clause-some c =
    let push = push-of c.self.invariant c.self.view_is c.processes-processes.ensures.value c.loc-takes.ensures c.as_slice-events.ensures.value
    c.requires.letter in
    some-takes push

pub free_label-label-requires-clause-within : goal.free_label-label-requires-clause-within
free_label-label-requires-clause-within c =
    let push = push-of c.self.invariant c.self.view_is c.processes-processes.ensures.value c.loc-takes.ensures c.as_slice-events.ensures.value
    c.requires.letter in
    least-event push c.own_of_least-own.result c.own_of_least-own.ensures

pub free_label-label-requires-clause-labelled : goal.free_label-label-requires-clause-labelled
free_label-label-requires-clause-labelled c =
    let push = push-of c.self.invariant c.self.view_is c.processes-processes.ensures.value c.loc-takes.ensures c.as_slice-events.ensures.value
    c.requires.letter in
    labelled-events push

pub push_reserved-requires : goal.push_reserved-requires
push_reserved-requires c =
    let events = c.self.inside.events in
    let before : length (word_of_events events.items) < c.self.inside.room =
    subst (λ (m : MarkedWord). length m.word < m.room) (sym c.self.view_is) c.requires.room in
    let word = length-map events.items (λ (e : Event). e.letter.0) in
    let long = events.ok.0 in
    omega arith

pub invariant_of-self : goal.invariant_of-self
invariant_of-self c =
    let push = push-of c.self.invariant c.self.view_is c.processes-processes.ensures.value c.loc-takes.ensures c.as_slice-events.ensures.value
    c.requires.letter in
    let event : Event = record { letter = c.args.a; label = c.free_label-label.result; past = c.past_of_next-past.result } in
    let all : c.push_reserved.new.self.items ≡ c.as_slice-events.result.now ++ event ∷ [] = c.push_reserved.ensures.items
    ∙ ap (λ es. es ++ event ∷ []) (sym c.as_slice-events.ensures.value) in
    let labelled = pushed-label push c.own_of_least-own.result c.free_label-label.result c.own_of_least-own.ensures c.free_label-label.ensures in
    record {
      alphabet = c.self.invariant.alphabet;
      word = pushed-word push event c.push_reserved.new.self.items refl all;
      short = pushed-short c.self.inside event c.self.view_is c.requires.room c.push_reserved.ensures.items;
      reserved = omega arith;
      marked = pushed-marked push event c.take_part.new.own c.push_reserved.new.self.items refl labelled c.past_of_next-past.ensures c.take_part.ensures all;
    }

pub returns-clause-label : goal.returns-clause-label
returns-clause-label c =
    let push = push-of c.self.invariant c.self.view_is c.processes-processes.ensures.value c.loc-takes.ensures c.as_slice-events.ensures.value
    c.requires.letter in
    pushed-label push c.own_of_least-own.result c.free_label-label.result c.own_of_least-own.ensures c.free_label-label.ensures
    ∙ label-seen c.self.inside c.args.a.0 c.self.view_is c.processes-processes.ensures.value c.as_slice-events.ensures.value

pub returns-clause-word : goal.returns-clause-word
returns-clause-word c =
    let event : Event = record { letter = c.args.a; label = c.free_label-label.result; past = c.past_of_next-past.result } in
    let word : word_of_events c.push_reserved.new.self.items ≡ word_of_events c.self.inside.events.items ++ c.args.a.0 ∷ [] =
    ap word_of_events c.push_reserved.ensures.items ∙ map_push (λ (e : Event). e.letter.0) c.self.inside.events.items event in
    let seen : List ℕ → MarkedWord = λ w. record { alphabet = c.self.inside.alphabet; word = w; room = c.self.inside.room } in
    ap seen word ∙ ap (λ (m : MarkedWord). record m { word = m.word ++ c.args.a.0 ∷ [] }) c.self.view_is
