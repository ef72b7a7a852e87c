-- Marks after a push.
use Rattle.std.proofs.Common.{◌≡◌, ℕ, suc, ◌<◌, ◌≤◌, List, [], ◌∷◌, ◌++◌, length, slice_index, Option, Some, IsTrue, IfSome, refl, sym, ap, subst, ◌∙◌, arith}
use Rattle.std.proofs.Common.{if◌then◌else◌}
use Rattle.std.proofs.lemmas.List.{get_or_append_left, get_or_push, length_push, length-map, map_push}
use Rattle.std.proofs.lemmas.List.Elements.{All-push}
use Rattle.za_alpha.specs.Limits.{most_processes}
use Rattle.za_alpha.specs.declared.procs.Procs.{Procs}
use Rattle.za_alpha.specs.Words.{has, IsAlphabet, IsWord}
use Rattle.za_alpha.specs.Search.{least}
use Rattle.za_alpha.specs.Procs.{members}
use Rattle.za_alpha.specs.Alphabet.{DistributedAlphabet, IsDistributed, loc_of, procs_at}
use Rattle.za_order.specs.Views.{participants}
use Rattle.za_order.specs.Labels.{label}
use Rattle.za_alpha.proofs.Least.{least-le}
use Rattle.za_order.proofs.Participants.{IsOver, word-over}
use Rattle.za_views.specs.declared.events.Event.{Event}
use Rattle.za_views.specs.declared.marks.Marks.TheInside.{Inside}
use Rattle.za_ids.specs.Limits.{most_labels}
use Rattle.za_views.specs.Private.Events.{entry, known_by, AreEvents, AreLabelled}
use Rattle.za_views.specs.Marks.{MarkedWord}
use Rattle.za_views.specs.Private.Newest.{IsJoined}
use Rattle.za_views.specs.Private.Taken.{least_untaken}
use Rattle.za_views.specs.Private.Kept.{word_of_events, marked_word, AreKept, IsKept}
use Rattle.za_views.proofs.MarkedEntries.{own-among}
use Rattle.za_views.proofs.MarkedLabels.{are-labelled, least-untaken-is}
use Rattle.za_views.proofs.NextEvent.{marked-longer, IsNext, marked-next}

-- marked events of a word of the alphabet, and a letter of it with its processes
pub record IsPush (alphabet : DistributedAlphabet) (processes : ℕ) (takes : List ℕ) (events : List Event) (own : List (Option ℕ)) (a : ℕ) : Type 0 where
  pub distributed : IsDistributed alphabet
  pub count : processes ≡ alphabet.processes
  pub word : IsWord (length alphabet.letters) (word_of_events events)
  pub marked : AreKept (loc_of alphabet) processes (word_of_events events) (length events) events own
  pub letter : a < length alphabet.letters
  pub located : takes ≡ loc_of alphabet a

-- marks and a letter of their alphabet are such
pub push-of : {inside : Inside} {m : MarkedWord} {processes : ℕ} {takes : Procs} {events : List Event} {a : ℕ} → IsKept inside → marked_word inside ≡ m →
    processes ≡ inside.alphabet.processes → takes ≡ procs_at inside.alphabet.letters a →
    events ≡ inside.events.items → a < length m.alphabet.letters → IsPush inside.alphabet processes (members takes) events inside.own a
push-of {inside = inside} {processes = processes} {events = events} {a = a} kept view count located same letter = record {
  distributed = kept.alphabet;
  count = count;
  word = subst (λ es. IsWord (length inside.alphabet.letters) (word_of_events es)) (sym same) kept.word;
  marked =
      subst (λ n. AreKept (loc_of inside.alphabet) n (word_of_events events) (length events) events inside.own) (sym count)
      (subst (λ es. AreKept (loc_of inside.alphabet) inside.alphabet.processes (word_of_events es) (length es) es inside.own) (sym same) kept.marked);
  letter = subst (λ m. a < length m.alphabet.letters) (sym view) letter;
  located = ap members located;
}

module _ {alphabet : DistributedAlphabet} {processes : ℕ} {takes : List ℕ} {events : List Event} {own : List (Option ℕ)} {a : ℕ}
    (push : IsPush alphabet processes takes events own a) where
  -- the longer word
  abbrev longer : List ℕ
  longer = word_of_events events ++ a ∷ []

  -- there are few processes
  few : processes ≤ most_processes
  few = let f = push.distributed.few_processes in let e = push.count in omega arith

  -- processes and letters make an alphabet
  alphabet-is : IsAlphabet (loc_of alphabet) (length alphabet.letters) processes
  alphabet-is = subst (λ n. IsAlphabet (loc_of alphabet) (length alphabet.letters) n) (sym push.count) push.distributed.located

  -- the letter has a process
  pub some-takes : (p : ℕ) × (p < processes) × IsTrue (has takes p)
  some-takes =
      let some = alphabet-is.some a push.letter in
      (some.0, alphabet-is.below a some.0 push.letter some.1, subst (λ ps. IsTrue (has ps some.0)) (sym push.located) some.1)

  -- own last events are events
  pub own-events : AreEvents (length events) processes own
  own-events = own-among push.marked

  -- that of the least participant is
  pub least-event : (o : Option ℕ) → o ≡ entry own (least (λ p. has takes p) processes) → IfSome o (λ e. e < length events)
  least-event o is =
      let some = some-takes in
      let le = least-le (λ p. has takes p) processes some.0 some.2 in
      subst (λ o. IfSome o (λ e. e < length events)) (sym is) (own-events (least (λ p. has takes p) processes) (omega arith))

  -- the events are labelled
  pub labelled-events : AreLabelled most_labels processes events
  labelled-events = are-labelled push.marked few

  -- the word has a letter for each event
  length-word : length (word_of_events events) ≡ length events
  length-word = length-map events (λ (e : Event). e.letter.0)

  -- the longer word is one of the alphabet
  word-longer : IsWord (length alphabet.letters) longer
  word-longer = let P : ℕ → Type 0 = λ b. b < length alphabet.letters in All-push P (word_of_events events) a push.word push.letter

  -- its events have participants
  over-longer : IsOver (loc_of alphabet) (length alphabet.letters) processes longer
  over-longer = word-over (loc_of alphabet) (length alphabet.letters) processes longer alphabet-is word-longer

  -- its last letter
  letter-last : slice_index longer (length events) ≡ a
  letter-last = get_or_push (word_of_events events) a 0 (length events) length-word

  -- and whose it is
  takes-last : takes ≡ participants (loc_of alphabet) longer (length events)
  takes-last = push.located ∙ ap (loc_of alphabet) (sym letter-last)

  -- there is one letter more than events
  last-there : length events < length longer
  last-there = let e = length-word in omega (arith, length_push (word_of_events events) a)

  -- the events are marked as those of the longer word
  marked-before : AreKept (loc_of alphabet) processes longer (length events) events own
  marked-before =
      marked-longer push.marked
      (record {
        first = word-over (loc_of alphabet) (length alphabet.letters) processes (word_of_events events) alphabet-is push.word;
        second = over-longer;
        in_first = let e = length-word in omega arith;
        in_second = let l = last-there in omega arith;
        same = λ j l. sym (get_or_append_left (word_of_events events) (a ∷ []) 0 j (let e = length-word in omega arith));
      })

  -- the first label that is not taken is the label of the new event
  pub pushed-label : (o : Option ℕ) (k : ℕ) → o ≡ entry own (least (λ p. has takes p) processes) →
      k ≡ least_untaken events processes a o → k ≡ label (loc_of alphabet) processes longer (length events)
  pushed-label o k last free =
      let x : ℕ = least (λ p. has (participants (loc_of alphabet) longer (length events)) p) processes in
      let own_is : o ≡ entry own x = last ∙ ap (λ ps. entry own (least (λ p. has ps p) processes)) takes-last in
      free ∙ ap (λ b. least_untaken events processes b o) (sym letter-last)
      ∙ ap (least_untaken events processes (slice_index longer (length events))) own_is
      ∙ least-untaken-is marked-before x over-longer last-there few refl

  -- and the events are marked after it
  pub pushed-marked : (event : Event) (after : List (Option ℕ)) (all : List Event) → event.letter.0 ≡ a →
      event.label ≡ label (loc_of alphabet) processes longer (length events) →
      ((q : ℕ) → q < processes → IsJoined takes processes (length events) q (known_by events own q) (entry event.past q)) →
      ((p : ℕ) → p < processes → entry after p ≡ (if has takes p then Some (length events) else entry own p)) →
      all ≡ events ++ event ∷ [] → AreKept (loc_of alphabet) alphabet.processes (word_of_events all) (length all) all after
  pushed-marked event after all letter labelled past last pushed =
      let next : IsNext (loc_of alphabet) processes longer (length events) events own event after = record {
        letter = letter ∙ sym letter-last;
        labelled = labelled;
        past = subst (λ ps. (q : ℕ) → q < processes → IsJoined ps processes (length events) q (known_by events own q) (entry event.past q)) takes-last past;
        last = subst (λ ps. (p : ℕ) → p < processes → entry after p ≡ (if has ps p then Some (length events) else entry own p)) takes-last last;
      } in
      let marked = marked-next over-longer last-there marked-before next in
      let word : word_of_events (events ++ event ∷ []) ≡ longer = map_push (λ (e : Event). e.letter.0) events event
      ∙ ap (λ b. word_of_events events ++ b ∷ []) letter in
      let count : length (events ++ event ∷ []) ≡ suc (length events) = omega (arith, length_push events event) in
      subst (λ es. AreKept (loc_of alphabet) alphabet.processes (word_of_events es) (length es) es after) (sym pushed)
      (subst (λ k. AreKept (loc_of alphabet) k (word_of_events (events ++ event ∷ [])) (length (events ++ event ∷ [])) (events ++ event ∷ []) after)
      push.count
      (subst (λ w. AreKept (loc_of alphabet) processes w (length (events ++ event ∷ [])) (events ++ event ∷ []) after) (sym word)
      (subst (λ n. AreKept (loc_of alphabet) processes longer n (events ++ event ∷ []) after) (sym count) marked)))

  -- which are a word of the alphabet
  pub pushed-word : (event : Event) (all : List Event) → event.letter.0 ≡ a → all ≡ events ++ event ∷ [] → IsWord (length alphabet.letters) (word_of_events all)
  pushed-word event all letter pushed =
      let word : word_of_events (events ++ event ∷ []) ≡ longer = map_push (λ (e : Event). e.letter.0) events event
      ∙ ap (λ b. word_of_events events ++ b ∷ []) letter in
      subst (λ w. IsWord (length alphabet.letters) w) (sym (ap word_of_events pushed ∙ word)) word-longer

-- the label in the words of a contract
pub label-seen : (inside : Inside) (a : ℕ) {m : MarkedWord} {processes : ℕ} {events : List Event} → marked_word inside ≡ m →
    processes ≡ inside.alphabet.processes → events ≡ inside.events.items →
    label (loc_of inside.alphabet) processes (word_of_events events ++ a ∷ []) (length events)
    ≡ label (loc_of m.alphabet) m.alphabet.processes (m.word ++ a ∷ []) (length m.word)
label-seen inside a {events = events} view count same =
    ap (λ n. label (loc_of inside.alphabet) n (word_of_events events ++ a ∷ []) (length events)) count
    ∙ ap (λ es. label (loc_of inside.alphabet) inside.alphabet.processes (word_of_events es ++ a ∷ []) (length es)) same
    ∙ ap (label (loc_of inside.alphabet) inside.alphabet.processes (word_of_events inside.events.items ++ a ∷ []))
    (sym (length-map inside.events.items (λ (e : Event). e.letter.0)))
    ∙ ap (λ (m : MarkedWord). label (loc_of m.alphabet) m.alphabet.processes (m.word ++ a ∷ []) (length m.word)) view

-- there is room for the event
pub pushed-short : (inside : Inside) (event : Event) {m : MarkedWord} {all : List Event} → marked_word inside ≡ m → length m.word < m.room →
    all ≡ inside.events.items ++ event ∷ [] → length all ≤ inside.room
pushed-short inside event view room pushed =
    let before : length (word_of_events inside.events.items) < inside.room = subst (λ m. length m.word < m.room) (sym view) room in
    let word = length-map inside.events.items (λ (e : Event). e.letter.0) in
    let count = ap length pushed in omega (arith, length_push inside.events.items event)
