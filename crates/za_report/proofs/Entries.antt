-- The lines of what each process knows, by the numbers of events that it keeps.
use Rattle.std.proofs.Common.{◌≡◌, ◌≢◌, ℕ, ◌+◌, ◌-◌, ◌%◌, ◌^◌, ◌≤◌, List, [], ◌∷◌, ◌++◌, All, length, map, Option, Some, None, sym, ap, subst, ◌∙◌, refl, arith}
use Rattle.std.proofs.Common.{append_assoc}
use Rattle.std.specs.Prelude.{slice_index, codes, decimal}
use Rattle.std.specs.List.{range_with_len}
use Rattle.std.proofs.lemmas.List.FromFn.{length-map-range_with_len, get_or-map-range_with_len}
use Rattle.za_alpha.specs.Words.{IsWord}
use Rattle.za_alpha.specs.Alphabet.{DistributedAlphabet, IsDistributed, loc_of}
use Rattle.za_order.specs.Views.{participants}
use Rattle.za_order.specs.Entries.{primary}
use Rattle.za_order.specs.Labels.{label, label_bound, number}
use Rattle.za_order.specs.Locals.{ids}
use Rattle.za_order.proofs.Labels.{labels_are_bounded}
use Rattle.za_order.proofs.Numbers.{numbers_are_bounded, number-some}
use Rattle.za_order.proofs.Entries.{primary-sound, primary-below}
use Rattle.za_ids.proofs.Numbers.{number-letter, number-label}
use Rattle.za_dfa.specs.Tables.{CompleteDfa}
use Rattle.za_gossip.specs.Rows.{rows_after}
use Rattle.za_local.specs.Locals.{view_state_after}
use Rattle.za_write.specs.Events.{event_word, number_word}
use Rattle.za_text.specs.Printed.{spaced}
use Rattle.za_write.proofs.Lines.{spaced-append}
use Rattle.za_write.proofs.NumberParts.{word-of-some}
use Rattle.za_report.specs.LocalStates.{entry_word, known_words}
use Rattle.za_report.specs.Private.KeptLines.{kept_words}

-- the word of an entry by its number is the word of the entry
entry-by-number : (alphabet : DistributedAlphabet) (w : List ℕ) (e : Option ℕ) →
    number_word alphabet (number (loc_of alphabet) alphabet.processes w e) ≡ entry_word alphabet w e
entry-by-number alphabet w None = refl
entry-by-number alphabet w (Some i) =
    let n = alphabet.processes in
    let v = number (loc_of alphabet) n w (Some i) in
    let k = label (loc_of alphabet) n w i in
    let small : k ≤ n ^ 3 = labels_are_bounded (loc_of alphabet) n w i in
    let some : v ≢ 0 = number-some (loc_of alphabet) n w i in
    word-of-some alphabet v some
    ∙ ap (λ a. event_word alphabet a ((v - 1) % (n ^ 3 + 1))) (number-letter n (slice_index w i) k v small refl)
    ∙ ap (event_word alphabet (slice_index w i)) (number-label n (slice_index w i) k v small refl)

-- the words of the primary numbers of a process are the words of its entries
words-by-numbers : (alphabet : DistributedAlphabet) (w : List ℕ) (p : ℕ) (xs : List ℕ) →
    map (number_word alphabet) (map (ids (loc_of alphabet) alphabet.processes w (length w) p).primary xs)
    ≡ map (λ q. entry_word alphabet w (primary (participants (loc_of alphabet) w) (length w) p q)) xs
words-by-numbers alphabet w p [] = refl
words-by-numbers alphabet w p (q ∷ xs) =
    let e = primary (participants (loc_of alphabet) w) (length w) p q in
    ap (λ (x : List ℕ). x ∷ map (number_word alphabet) (map (ids (loc_of alphabet) alphabet.processes w (length w) p).primary xs))
    (entry-by-number alphabet w e)
    ∙ ap (λ (ys : List (List ℕ)). entry_word alphabet w e ∷ ys) (words-by-numbers alphabet w p xs)

-- what a process keeps says what it knows
pub known-by-numbers : (d : CompleteDfa) (w : List ℕ) (p : ℕ) (numbers : List ℕ) (state : ℕ) →
    numbers ≡ (rows_after (loc_of d.alphabet) d.alphabet.processes w p).primary →
    state ≡ view_state_after d w p → kept_words d.alphabet numbers state ≡ known_words d w p
known-by-numbers d w p numbers state e f =
    ap (λ (xs : List ℕ). kept_words d.alphabet xs state) e
    ∙ ap (λ s. kept_words d.alphabet (rows_after (loc_of d.alphabet) d.alphabet.processes w p).primary s) f
    ∙ ap (λ (ys : List (List ℕ)). ys ++ codes "view" ∷ decimal (view_state_after d w p) ∷ [])
    (words-by-numbers d.alphabet w p (range_with_len 0 d.alphabet.processes))

-- the number of an entry is at most that of the last label of the last letter
entry-bounded : (alphabet : DistributedAlphabet) (w : List ℕ) (p q : ℕ) (o : Option ℕ) → IsDistributed alphabet → IsWord (length alphabet.letters) w →
    primary (participants (loc_of alphabet) w) (length w) p q ≡ o →
    number (loc_of alphabet) alphabet.processes w o ≤ label_bound (length alphabet.letters) alphabet.processes
entry-bounded alphabet w p q None whole word is = omega arith
entry-bounded alphabet w p q (Some e) whole word is =
    let who = participants (loc_of alphabet) w in
    numbers_are_bounded (loc_of alphabet) (length alphabet.letters) alphabet.processes w e whole.located word
    (primary-below who (length w) p q e (primary-sound who (length w) p q e is))

-- and so are all primary numbers of a process
pub numbers-bounded : (alphabet : DistributedAlphabet) (w : List ℕ) (p : ℕ) → IsDistributed alphabet → IsWord (length alphabet.letters) w →
    All (λ v. v ≤ label_bound (length alphabet.letters) alphabet.processes) (rows_after (loc_of alphabet) alphabet.processes w p).primary
numbers-bounded alphabet w p whole word k d l =
    let f = (ids (loc_of alphabet) alphabet.processes w (length w) p).primary in
    let long : length (map f (range_with_len 0 alphabet.processes)) ≡ alphabet.processes = length-map-range_with_len f 0 alphabet.processes in
    subst (λ v. v ≤ label_bound (length alphabet.letters) alphabet.processes)
    (sym (get_or-map-range_with_len f 0 alphabet.processes k k d (omega arith) (omega arith)))
    (entry-bounded alphabet w p k (primary (participants (loc_of alphabet) w) (length w) p k) whole word refl)

-- words after words, and then a state
pub kept-spaced : (alphabet : DistributedAlphabet) (numbers : List ℕ) (state : ℕ) (old one two new : List ℕ) → one ≡ old
    ++ spaced (map (number_word alphabet) numbers) →
    two ≡ one ++ spaced (codes "view" ∷ []) → new ≡ two ++ spaced (decimal state ∷ []) → new ≡ old ++ spaced (kept_words alphabet numbers state)
kept-spaced alphabet numbers state old one two new a b c =
    let words = map (number_word alphabet) numbers in
    let view = codes "view" ∷ [] in
    let last = decimal state ∷ [] in
    c ∙ ap (λ t. t ++ spaced last) (b ∙ ap (λ t. t ++ spaced view) a) ∙ append_assoc (old ++ spaced words) (spaced view) (spaced last)
    ∙ append_assoc old (spaced words) (spaced view ++ spaced last)
    ∙ ap (λ ys. old ++ ys) (ap (λ ys. spaced words ++ ys) (sym (spaced-append view last)) ∙ sym (spaced-append words (view ++ last)))
