use Rattle.std.proofs.Common.{◌≡◌, ◌≢◌, true, false, ℕ, ◌+◌, ◌-◌, ◌/◌, ◌%◌, ◌^◌, ◌<◌, ◌≤◌, ◌++◌, ◌∷◌, List, [], length, sym, ap, subst, ◌∙◌}
use Rattle.std.specs.Prelude.{OnOk}
use Rattle.za_order.specs.Labels.{label_bound}
use Rattle.za_text.specs.Printed.{spaced}
use Rattle.za_write.specs.Events.{event_word, number_word}
use Rattle.za_write.proofs.NumberParts.{number-within, letter-is, label-is, word-of-some}
use Rattle.za_write.proofs.events.push_entry.Goals as goal

pub push_event-requires : goal.push_event-requires
push_event-requires c =
    let alphabet = c.args.alphabet.now in
    let v = c.args.id.0 in
    let n = c.processes-n.result in
    let some : v ≢ 0 = λ zero. (let both : true ≡ false = rw c.in-Some-Some.is-0 at c.letter_of.ensures.none.1 zero in absurd (cc)) in
    let bound = subst (λ m. v ≤ label_bound (length alphabet.letters) m) (sym c.processes-n.ensures.value) c.requires in
    subst (λ x. x < length alphabet.letters) (sym (letter-is n v c.letter_of.result c.in-Some-Some.a c.in-Some-Some.is-0 c.letter_of.ensures.inverse some))
    (number-within n (length alphabet.letters) v some bound)

pub returns-in-Some-Some-clause-ok : goal.returns-in-Some-Some-clause-ok
returns-in-Some-Some-clause-ok c =
    let alphabet = c.args.alphabet.now in
    let v = c.args.id.0 in
    let n = c.processes-n.result in
    let some : v ≢ 0 = λ zero. (let both : true ≡ false = rw c.in-Some-Some.is-0 at c.letter_of.ensures.none.1 zero in absurd (cc)) in
    let letter = letter-is n v c.letter_of.result c.in-Some-Some.a c.in-Some-Some.is-0 c.letter_of.ensures.inverse some in
    let label = label-is n v c.label_of.result c.in-Some-Some.label c.in-Some-Some.is-1 c.label_of.ensures.inverse some in
    let word : event_word alphabet c.in-Some-Some.a.0 c.in-Some-Some.label ≡ number_word alphabet v =
    ap (λ a. event_word alphabet a c.in-Some-Some.label) letter
    ∙ ap (λ l. event_word alphabet ((v - 1) / (n ^ 3 + 1)) l) label
    ∙ ap (λ m. event_word alphabet ((v - 1) / (m ^ 3 + 1)) ((v - 1) % (m ^ 3 + 1))) c.processes-n.ensures.value
    ∙ sym (word-of-some alphabet v some) in
    subst (λ (t : List ℕ). OnOk c.push_event.result (c.push_event.new.text.items ≡ c.args.text.now.items ++ spaced (t ∷ []))) word c.push_event.ensures.ok
