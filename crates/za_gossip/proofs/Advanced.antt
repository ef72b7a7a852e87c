-- The rows and the label after an event, from the rows of its participants.
use Rattle.std.proofs.Common.{◌≡◌, ℕ, ◌+◌, ◌*◌, ◌^◌, ◌<◌, ◌≤◌, true, false, not, inl, inr, List, [], length, get_or, map, Option, Some, None, sym, ap, ◌∙◌}
use Rattle.std.proofs.Common.{arith}
use Rattle.std.specs.List.{range_with_len}
use Rattle.std.proofs.lemmas.Bool.{cases_Bool, not_from_true, not_from_false}
use Rattle.std.proofs.lemmas.List.{get_or-map}
use Rattle.std.proofs.lemmas.Option.{get_or_from_slice_get}
use Rattle.za_alpha.specs.Words.{has}
use Rattle.za_alpha.specs.Search.{least}
use Rattle.za_alpha.specs.Alphabet.{DistributedAlphabet, IsDistributed, loc_of, procs_at}
use Rattle.za_order.specs.Views.{participants}
use Rattle.za_order.specs.Labels.{number_of}
use Rattle.za_order.specs.Locals.{Ids, ids, best}
use Rattle.za_gossip.specs.declared.gossip.Level.{Level}
use Rattle.za_gossip.specs.Rows.{Rows, rows_of, AreRowsAfter}
use Rattle.za_gossip.specs.Private.Levels.{level_of}
use Rattle.za_gossip.specs.Updates.{newest, new_label, updated}
use Rattle.za_gossip.specs.Private.Sources.{IsSource, joined_entry}
use Rattle.za_gossip.proofs.Numbers.{newest-best, least-is}
use Rattle.za_order.proofs.Rising.{rising-members, has-place}
use Rattle.za_gossip.proofs.LevelRows.{width, own_block, IsRight, length-row, row-joined}
use Rattle.za_gossip.proofs.Inputs.{inputs-length, inputs-some, input-at}

module _ (alphabet : DistributedAlphabet) (a : ℕ) (whole : IsDistributed alphabet) (small : a < length alphabet.letters) (inputs : List Rows) (w : List ℕ)
    (given : AreRowsAfter alphabet w (loc_of alphabet a) inputs) where
  abbrev loc : ℕ → List ℕ
  loc = loc_of alphabet

  abbrev n : ℕ
  n = alphabet.processes

  abbrev xs : List ℕ
  xs = loc a

  abbrev known : ℕ → Ids
  known = ids loc n w (length w)

  -- the length of a row of an input
  pub length-input : (level : Level) (i : ℕ) (d : Rows) → i < length inputs → length (level_of level (get_or inputs i d)) ≡ n * width level n
  length-input level i d l = ap (λ (rows : Rows). length (level_of level rows)) (input-at alphabet a whole small inputs w given i d l)
      ∙ length-row level n (known (get_or xs i 0))

  -- the first participant is the least
  least-first : least (has xs) n ≡ get_or xs 0 0
  least-first =
      let some : 0 < length xs = (let e = inputs-length alphabet a whole small inputs w given in let s = inputs-some alphabet a whole small inputs w given in
      omega arith) in
      let here = has-place xs 0 some in
      least-is (has xs) n (get_or xs 0 0) (whole.located.below a (get_or xs 0 0) small here) here
      (λ j l. elim (cases_Bool (has xs j)) [
        | inl t ↦ absurd (let f = (rising-members (procs_at alphabet.letters a)).first j t in omega arith)
        | inr f ↦ f
      ])

  -- the least label whose number is not in its tertiary row is the new label
  pub label-found : (k : ℕ) (d : Rows) → k ≤ n ^ 3 → has (get_or inputs 0 d).tertiary (number_of n a k) ≡ false →
      ((j : ℕ) → j < k → has (get_or inputs 0 d).tertiary (number_of n a j) ≡ true) →
      new_label n xs a known ≡ k
  label-found k d l free below =
      let row = λ (rows : Rows). rows.tertiary in
      let same : (get_or inputs 0 d).tertiary ≡ (rows_of n (known (least (has xs) n))).tertiary =
      ap row (input-at alphabet a whole small inputs w given 0 d (inputs-some alphabet a whole small inputs w given))
      ∙ ap (λ x. (rows_of n (known x)).tertiary) (sym least-first) in
      let first = (rows_of n (known (least (has xs) n))).tertiary in
      least-is (λ k. not (has first (number_of n a k))) (n ^ 3 + 1) k (omega arith)
      (not_from_false (has first (number_of n a k)) (sym (ap (λ r. has r (number_of n a k)) same) ∙ free))
      (λ j lj. not_from_true (has first (number_of n a j)) (sym (ap (λ r. has r (number_of n a j)) same) ∙ below j lj))

  -- a source is right
  source-right : (level : Level) (q : ℕ) (o : Option ℕ) → ((b : ℕ) → o ≡ Some b → b < length inputs) → IsSource alphabet w a q o →
      IsRight n xs a known level (map (level_of level) inputs) q o
  source-right level q None within s = s
  source-right level q (Some b) within s =
      let none : Rows = record { primary = []; secondary = []; tertiary = [] } in
      let l = within b Rattle.std.proofs.Common.refl in
      let place : get_or xs b 0 ≡ newest n xs known q =
      get_or_from_slice_get xs b (best (participants loc w) n (length w) xs q) 0 s.1
      ∙ sym (newest-best loc (length alphabet.letters) n w whole.located given.word (length w) (omega arith) xs q) in (
        s.0,
        get_or-map (level_of level) inputs b none [] l
            ∙ ap (level_of level) (input-at alphabet a whole small inputs w given b none l)
            ∙ ap (λ x. level_of level (rows_of n (known x))) place,
      )

  -- a row after the event, as it is written
  pub row-written : (level : Level) (own : List ℕ) (sources : List (Option ℕ)) (size : ℕ) → size ≡ n * width level n → own ≡ own_block n xs a known level →
      ((q b : ℕ) → get_or sources q None ≡ Some b → b < length inputs) → ((q : ℕ) → q < n → IsSource alphabet w a q (get_or sources q None)) →
      map (joined_entry own sources (map (level_of level) inputs)) (range_with_len 0 size) ≡ level_of level (rows_of n (updated n xs a known))
  row-written level own sources size e s within good =
      row-joined n xs a known level (map (level_of level) inputs) own sources size e s
      (λ q l. source-right level q (get_or sources q None) (λ b h. within q b h) (good q l))
