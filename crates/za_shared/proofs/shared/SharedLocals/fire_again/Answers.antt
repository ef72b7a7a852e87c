use Rattle.std.proofs.Common.{◌≡◌, ℕ, ◌<◌, ◌≤◌, ◌==◌, cond, List, [], Some, None, Option, true, sym, ap, subst, ◌∙◌, arith, length, map, slice_index}
use Rattle.std.proofs.Common.{vec_capacity}
use Rattle.std.specs.Prelude.{count_by}
use Rattle.std.specs.Map.{lookup}
use Rattle.lru.specs.LruCache.{promoted}
use Rattle.za_alpha.specs.Words.{has}
use Rattle.za_alpha.specs.Procs.{members}
use Rattle.za_alpha.specs.Alphabet.{loc_of}
use Rattle.za_records.specs.Shelf.{count}
use Rattle.za_cache.specs.Lines.{Lines, LineKey, is_key}
use Rattle.za_shared.specs.Records.{Records, AreRecords, HasFired, bound}
use Rattle.za_shared.specs.Private.Inside.{AreRecordsInside, records_in, lines_of_rows, cache_in}
use Rattle.za_shared.specs.Private.Steps.{HaveMore, HaveTurned}
use Rattle.za_shared.proofs.Again.{few-inputs, shared, live, old, again-records, again-fired}
use Rattle.za_shared.proofs.Carrying.{few-holders}
use Rattle.za_shared.proofs.LineLists.{promoted-none}
use Rattle.za_shared.proofs.Marking.{marked-on}
use Rattle.za_shared.proofs.Vectors.{written}
use Rattle.za_shared.proofs.shared.SharedLocals.fire_again.Goals as goal
use Rattle.za_shared.proofs.shared.SharedLocals.fire_again.Goals.{In-Some, In_default-find_row, In-Some-find_row, After-turn}

-- what the records were
module _ (c : In-Some) where
  abbrev r : Records
  r = records_in c.self.inside

  letter : c.args.line.now.letter < length r.dfa.alphabet.letters
  letter = subst (λ (x : Records). c.args.line.now.letter < length x.dfa.alphabet.letters) (sym c.self.view_is) c.requires.letter

  participants : members c.args.participants ≡ loc_of r.dfa.alphabet c.args.line.now.letter
  participants = c.requires.participants ∙ ap (λ (x : Records). loc_of x.dfa.alphabet c.args.line.now.letter) (sym c.self.view_is)

  free : r.own ≡ []
  free = ap (λ (x : Records). x.own) c.self.view_is ∙ c.requires.free

  inputs : c.args.line.now.inputs.items ≡ map (λ p. slice_index r.keys p) (members c.args.participants)
  inputs = c.requires.inputs ∙ ap (λ (x : Records). map (λ p. slice_index x.keys p) (members c.args.participants)) (sym c.self.view_is)

  few : length c.args.line.now.inputs.items ≤ r.dfa.alphabet.processes
  few = few-inputs r c.self.invariant.records c.args.line.now.letter letter c.args.participants participants c.args.line.now.inputs.items inputs

-- without a line the rows are as they were
same : (c : In_default-find_row) → Some c.find_row.new.self ≡ c.self.inside.rows
same c =
    let test = is_key c.args.line.now.letter c.args.line.now.inputs.items in
    let none : lookup test c.in-Some.rows.lines ≡ None = sym c.find_row.ensures.found ∙ c.in_default-find_row.is in
    ap Some (c.find_row.ensures.lines ∙ ap (λ (ls : List (LineKey × ℕ)). record c.in-Some.rows { lines = ls }) (promoted-none test c.in-Some.rows.lines none))
    ∙ sym c.in-Some.is

pub invariant_of-self-in_default-find_row : goal.invariant_of-self-in_default-find_row
invariant_of-self-in_default-find_row c =
    let i = c.self.inside in
    subst (λ (o : Option Lines). AreRecordsInside
    (record { closed = i.closed; shelf = i.shelf; spares = i.spares; own = i.own; keys = i.keys; rows = o; bench = i.bench; marks = i.marks }))
    (sym (same c)) c.self.invariant

pub returns-in_default-find_row : goal.returns-in_default-find_row
returns-in_default-find_row c =
    let i = c.self.inside in
    let test = is_key c.args.line.now.letter c.args.line.now.inputs.items in (
      ap (λ (r : Records). lookup test r.lines) (sym c.self.view_is) ∙ ap (λ (o : Option Lines). lookup test (lines_of_rows o)) c.in-Some.is
          ∙ sym c.find_row.ensures.found ∙ c.in_default-find_row.is,
      ap (λ (o : Option Lines). records_in
          (record { closed = i.closed; shelf = i.shelf; spares = i.spares; own = i.own; keys = i.keys; rows = o; bench = i.bench; marks = i.marks })) (same c)
          ∙ c.self.view_is,
    )

-- the line
found : (c : In-Some-find_row) → lookup (is_key c.args.line.now.letter c.args.line.now.inputs.items) (records_in c.self.inside).lines ≡ Some
    c.in-Some-find_row.key
found c = ap (λ (o : Option Lines). lookup (is_key c.args.line.now.letter c.args.line.now.inputs.items) (lines_of_rows o)) c.in-Some.is
    ∙ sym c.find_row.ensures.found ∙ c.in-Some-find_row.is

pub overflow_cast-inputs : goal.overflow_cast-inputs
overflow_cast-inputs c =
    let f = few (goal.at.overflow_cast-inputs c).In-Some in
    let e = ap length c.as_slice-inputs.ensures in
    let n = c.self.invariant.records.complete.distributed.few_processes in omega arith

pub hold_for-requires-clause-live : goal.hold_for-requires-clause-live
hold_for-requires-clause-live c =
    let k = (goal.at.hold_for-requires-clause-live c).In-Some in
    live (r k) c.self.invariant.records c.args.line.now.letter (letter k) c.args.participants (participants k) c.args.line.now.inputs.items (inputs k)
    (free k) c.in-Some-find_row.key
    (found (goal.at.hold_for-requires-clause-live c).In-Some-find_row)

pub hold_for-requires-clause-few : goal.hold_for-requires-clause-few
hold_for-requires-clause-few c =
    let k = (goal.at.hold_for-requires-clause-few c).In-Some in
    let f = few k in
    let e = ap length c.as_slice-inputs.ensures in
    let n = c.self.invariant.records.complete.distributed.few_processes in
    let b = few-holders (r k) c.self.invariant.records c.in-Some-find_row.key in
    let m = c.self.invariant.records.cache_few in omega arith

pub leave-requires : goal.leave-requires
leave-requires c = λ n h.
    let k = (goal.at.leave-requires c).In-Some in
    let slice = c.as_slice-inputs.ensures in
    let a = shared (r k) c.self.invariant.records c.args.line.now.letter (letter k) c.args.participants (participants k) c.args.line.now.inputs.items
    (inputs k) (free k) c.in-Some-find_row.key (found (goal.at.leave-requires c).In-Some-find_row) n (subst (λ (xs : List ℕ). has xs n ≡ true) slice h) in
    let b = c.hold_for.ensures.counts n in
    let e = ap (count_by (λ (x : ℕ). x == n)) slice in omega arith

-- all that has changed
module _ (c : After-turn) where
  abbrev k : In-Some
  k = (goal.at.After-turn c).In-Some

  line : lookup (is_key c.args.line.now.letter c.args.line.now.inputs.items) (r k).lines ≡ Some c.in-Some-find_row.key
  line = found (goal.at.After-turn c).In-Some-find_row

  turned : HaveTurned (r k).keys c.turn.new.keys (members c.args.participants) c.in-Some-find_row.key
  turned = subst (λ (ks : List ℕ). HaveTurned ks c.turn.new.keys (members c.args.participants) c.in-Some-find_row.key) c.deref_mut.ensures.value c.turn.ensures

  keys : (Rattle.std.specs.Vec.with_items c.self.inside.keys c.turn.new.keys).items ≡ c.turn.new.keys
  keys = written c.self.inside.keys c.turn.new.keys turned.size

  lines : c.find_row.new.self.lines ≡ promoted (is_key c.args.line.now.letter c.args.line.now.inputs.items) (r k).lines
  lines = ap (λ (l : Lines). l.lines) c.find_row.ensures.lines ∙ ap (promoted (is_key c.args.line.now.letter c.args.line.now.inputs.items))
      (sym (ap lines_of_rows c.in-Some.is))

  cache : c.find_row.new.self.capacity ≡ (r k).cache
  cache = ap (λ (l : Lines). l.capacity) c.find_row.ensures.lines ∙ sym (ap cache_in c.in-Some.is)

  more : HaveMore (r k).shelf c.hold_for.new.shelf (λ n. cond (c.in-Some-find_row.key == n) (length c.args.line.now.inputs.items) 0)
  more = subst (λ (xs : List ℕ). HaveMore (r k).shelf c.hold_for.new.shelf (λ n. cond (c.in-Some-find_row.key == n) (length xs) 0)) c.as_slice-inputs.ensures
      c.hold_for.ensures

  fewer : HaveMore c.leave.new.shelf c.hold_for.new.shelf (λ n. count_by (λ x. x == n) c.args.line.now.inputs.items)
  fewer = subst (λ (xs : List ℕ). HaveMore c.leave.new.shelf c.hold_for.new.shelf (λ n. count_by (λ x. x == n) xs)) c.as_slice-inputs.ensures c.leave.ensures

  abbrev after : List ℕ → ℕ → Records
  after ks n = record (r k) { cache = n; shelf = c.leave.new.shelf; keys = ks; lines = c.find_row.new.self.lines }

  abbrev written_keys : List ℕ
  written_keys = (Rattle.std.specs.Vec.with_items c.self.inside.keys c.turn.new.keys).items

  records : AreRecords (after written_keys c.find_row.new.self.capacity)
  records = subst (λ (n : ℕ). AreRecords (after written_keys n)) (sym cache)
      (subst (λ (ks : List ℕ). AreRecords (after ks (r k).cache)) (sym keys)
      (again-records (r k) c.self.invariant.records c.args.line.now.letter (letter k) c.args.participants (participants k) c.args.line.now.inputs.items
      (inputs k) (free k)
      c.in-Some-find_row.key line c.hold_for.new.shelf c.leave.new.shelf c.turn.new.keys c.find_row.new.self.lines more fewer turned lines))

  fired : HasFired (r k) (after written_keys c.find_row.new.self.capacity) c.args.line.now.letter
  fired = subst (λ (n : ℕ). HasFired (r k) (after written_keys n) c.args.line.now.letter) (sym cache)
      (subst (λ (ks : List ℕ). HasFired (r k) (after ks (r k).cache) c.args.line.now.letter) (sym keys)
      (again-fired (r k) c.self.invariant.records c.args.line.now.letter (letter k) c.args.participants (participants k) c.args.line.now.inputs.items
      (inputs k) (free k)
      c.in-Some-find_row.key line c.hold_for.new.shelf c.leave.new.shelf c.turn.new.keys c.find_row.new.self.lines more fewer turned lines))

  before : (n : ℕ) → 0 < count c.leave.new.shelf n → 0 < count (r k).shelf n
  before = old (r k) c.self.invariant.records c.args.line.now.letter (letter k) c.args.participants (participants k) c.args.line.now.inputs.items (inputs k)
      (free k)
      c.in-Some-find_row.key line c.hold_for.new.shelf c.leave.new.shelf c.turn.new.keys c.find_row.new.self.lines more fewer turned lines

pub invariant_of-self-2 : goal.invariant_of-self-2
invariant_of-self-2 c =
    let t = (goal.at.invariant_of-self-2 c).After-turn in
    let inv = c.self.invariant in
    record {
      records = records t;
      room = subst (λ (m : ℕ). bound (r (k t)).dfa.alphabet.processes m ≤ vec_capacity c.self.inside.spares) (sym (cache t)) inv.room;
      processes = inv.processes;
      states = inv.states;
      marks = marked-on (r (k t)).shelf c.leave.new.shelf c.self.inside.marks.items (before t)
          (λ n h. sym (c.leave.ensures.values n) ∙ c.hold_for.ensures.values n) inv.marks;
    }

pub returns : goal.returns
returns c =
    let t = (goal.at.returns c).After-turn in (
      subst (λ (x : Records). HasFired x (after t (written_keys t) c.find_row.new.self.capacity) c.args.line.now.letter) c.self.view_is (fired t),
      records t,
    )
