use Rattle.std.proofs.Common.{◌≡◌, ℕ, suc, ◌+◌, ◌-◌, ◌*◌, ◌/◌, ◌%◌, ◌<◌, ◌≤◌, inl, inr, List, [], length, get_or, take, drop, ◌++◌, slice_index, map, Option}
use Rattle.std.proofs.Common.{Some, None, sym, ap, subst, ◌∙◌, arith, length-take-le}
use Rattle.std.proofs.Math.Nat.{suc-mul, mul-le-mul_right}
use Rattle.std.proofs.lemmas.Bool.{cases_lt}
use Rattle.std.proofs.lemmas.Nat.{div-mul-add, mod-mul-add}
use Rattle.std.proofs.lemmas.List.{length-map, get_or-append_right, get_or-drop}
use Rattle.std.proofs.lemmas.List.FromFn.{fill_by_all}
use Rattle.za_ids.specs.declared.ids.EventId.{EventId}
use Rattle.za_ids.specs.Numbers.{event_numbers}
use Rattle.za_order.proofs.Parts.{part-before, part-within}
use borrow.Rule.Slice.PartMut.{put_mid, post_of}
use Rattle.za_gossip.specs.Private.Levels.{level_of}
use Rattle.za_gossip.specs.Private.Sources.{joined_entry, source_entry}
use Rattle.za_gossip.proofs.Places.{number-at}
use Rattle.za_gossip.proofs.updating.write_row.Goals as goal
use Rattle.za_gossip.proofs.updating.write_row.Goals.{then-not-is_first, else-not-is_first, Joined-not-is_first}

-- after a part that was written the elements stay
part-after : {X : Type 0} (a k : ℕ) (xs ys : List X) (i : ℕ) (d : X) → length ys ≡ k → a ≤ length xs → a + k ≤ i →
    get_or (put_mid a k xs ys) i d ≡ get_or xs i d
part-after a k xs ys i d long room l =
    let at : a + (k + (i - a - k)) ≡ i = omega arith in
    get_or-append_right (take a xs) (ys ++ post_of a k xs) a i d (length-take-le a xs room) (omega arith)
    ∙ get_or-append_right ys (post_of a k xs) k (i - a) d long (omega arith)
    ∙ get_or-drop k (drop a xs) (i - a - k) d
    ∙ get_or-drop a xs (k + (i - a - k)) d
    ∙ ap (λ j. get_or xs j d) at

-- an entry of the block q
module _ (own : List ℕ) (sources : List (Option ℕ)) (rows : List (List ℕ)) (q width : ℕ) (wide : length own ≡ width) where
  in-block : (j : ℕ) → j < width → joined_entry own sources rows (q * width + j) ≡ source_entry (slice_index own j) (get_or sources q None) rows (q * width + j)
  in-block j lj =
      let value : ℕ → ℕ → ℕ = λ i place. source_entry (slice_index own i) (get_or sources place None) rows (q * width + j) in
      ap (λ w. value ((q * width + j) % w) ((q * width + j) / w)) wide
      ∙ ap (λ place. value ((q * width + j) % width) place) (div-mul-add q width j lj)
      ∙ ap (λ i. value i q) (mod-mul-add q width j lj)

module _ (c : Joined-not-is_first) where
  abbrev width : ℕ
  width = length c.args.own.now

  abbrev q : ℕ
  q = c.loop-q.q

  abbrev from : ℕ
  from = q * width

  abbrev none : EventId
  none = record { 0 = 0 }

  abbrev own : List ℕ
  own = event_numbers c.args.own.now

  abbrev rows : List (List ℕ)
  rows = map (level_of c.args.level) c.args.inputs.now

  abbrev entry : ℕ → ℕ
  entry = joined_entry own c.args.sources.now rows

  wide : length own ≡ width
  wide = length-map c.args.own.now (λ (id : EventId). id.0)

  -- the block is within the row
  room : from + width ≤ length c.loop-q.into
  room =
      let more = suc-mul q width in
      let all : suc q * width ≤ c.args.processes * width = mul-le-mul_right width (let t = c.loop-q-test.true in omega arith) in
      let same = c.loop-q.auto.into in
      let first = c.copy_from_slice.auto.self in
      let size = c.requires.blocks in
      omega arith

  -- a block that comes from the first input stands there
  kept : get_or c.args.sources.now q None ≡ Some 0 → (k : ℕ) → k < (q + 1) * width → (get_or c.loop-q.into k none).0 ≡ entry k
  kept source k l = elim (cases_lt k from) [
    | inl lt ↦ c.loop-q.invariant.done k lt
    | inr ge ↦
        let more = suc-mul q width in
        let step : (q + 1) * width ≡ suc q * width = let e : q + 1 ≡ suc q = omega arith in ap (λ m. m * width) e in
        let j : ℕ = k - from in
        let at : from + j ≡ k = omega arith in
        let lj : j < width = omega arith in
        let P : ℕ → Type 0 = λ i. (get_or c.loop-q.into i none).0 ≡ entry i in
        let within = room in
        subst P at
        (c.loop-q.invariant.rest (from + j) (omega arith) (omega arith)
        ∙ sym (in-block own c.args.sources.now rows q width wide j lj ∙ ap (λ (s : Option ℕ). source_entry (slice_index own j) s rows (from + j)) source))
  ]

  later : (k : ℕ) → (q + 1) * width ≤ k → k < length c.loop-q.into → (get_or c.loop-q.into k none).0 ≡ get_or (get_or rows 0 []) k 0
  later k l small =
      let more = suc-mul q width in
      let step : (q + 1) * width ≡ suc q * width = let e : q + 1 ≡ suc q = omega arith in ap (λ m. m * width) e in
      c.loop-q.invariant.rest k (omega arith) small

pub loop-q-preserved : goal.loop-q-preserved
loop-q-preserved c = elim c.if-not-is_first.branch [
  | then-not-is_first w ↦
      let was = c.loop-q.into in
      let size : ℕ = from c + width c - from c in
      let block = w.copy_from_slice-then-not-is_first.new.self in
      let copied = w.copy_from_slice-then-not-is_first.ensures.after in
      let long = w.block_after-block.ensures.long in
      let within = room c in
      let first : from c ≤ length was = omega arith in
      let sized : length block ≡ size = let e = ap length copied in omega arith in
      let more = suc-mul (q c) (width c) in
      let step : (q c + 1) * width c ≡ suc (q c) * width c = let e : q c + 1 ≡ suc (q c) = omega arith in ap (λ m. m * width c) e in
      record {
        done = λ k l. ap (λ ids. (get_or ids k (none c)).0) w.into-is ∙ elim (cases_lt k (from c)) [
          | inl lt ↦ ap (λ (e : EventId). e.0) (part-before (from c) size was block k (none c) lt first) ∙ c.loop-q.invariant.done k lt
          | inr ge ↦
              let j : ℕ = k - from c in
              let at : from c + j ≡ k = omega arith in
              let lj : j < width c = omega arith in
              let lb : j < length block = omega arith in
              let here : (get_or (put_mid (from c) size was block) (from c + j) (none c)).0 ≡ entry c (from c + j) =
              ap (λ (e : EventId). e.0) (part-within (from c) size was block j (none c) lb first)
              ∙ ap (λ xs. (get_or xs j (none c)).0) copied
              ∙ sym (number-at w.block_after-block.result.now j)
              ∙ w.block_after-block.ensures.block j lj
              ∙ sym (in-block (own c) c.args.sources.now (rows c) (q c) (width c) (wide c) j lj) in
              let P : ℕ → Type 0 = λ i. (get_or (put_mid (from c) size was block) i (none c)).0 ≡ entry c i in
              subst P at here
        ];
        rest = λ k l small.
            let same = c.if-not-is_first.auto.into in
            ap (λ ids. (get_or ids k (none c)).0) w.into-is
            ∙ ap (λ (e : EventId). e.0) (part-after (from c) size was block k (none c) sized first (omega arith))
            ∙ later c k l (omega arith);
      }
  | else-not-is_first w ↦
      let source : get_or c.args.sources.now (q c) None ≡ Some 0 = c.is_first.ensures w.if-not-is_first.false in
      record {
        done = λ k l. ap (λ ids. (get_or ids k (none c)).0) w.into-is ∙ kept c source k l;
        rest = λ k l small. let same = c.if-not-is_first.auto.into in ap (λ ids. (get_or ids k (none c)).0) w.into-is ∙ later c k l (omega arith);
      }
]

pub returns : goal.returns
returns c =
    let entry = joined_entry (event_numbers c.args.own.now) c.args.sources.now (map (level_of c.args.level) c.args.inputs.now) in
    let long = length-map c.loop-q.into (λ (id : EventId). id.0) in
    let same = c.loop-q.auto.into in
    let first = c.copy_from_slice.auto.self in
    let all : c.loop-q.q ≡ c.args.processes = let e = c.loop-q.auto.q-end in let t = c.loop-q-test.false in omega arith in
    let size = ap (λ q. q * length c.args.own.now) all in
    let blocks = c.requires.blocks in
    fill_by_all entry (event_numbers c.loop-q.into) (length c.args.into.now) 0 (omega arith)
    (λ k l. number-at c.loop-q.into k ∙ c.loop-q.invariant.done k (omega arith))
