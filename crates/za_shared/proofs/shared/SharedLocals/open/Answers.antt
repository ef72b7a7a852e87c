use Rattle.std.proofs.Common.{◌≡◌, ℕ, [], List, Some, replicate, sym, ap, subst, ◌∙◌, arith}
use Rattle.za_alpha.specs.Alphabet.{DistributedAlphabet}
use Rattle.za_dfa.specs.Tables.{CompleteDfa, IsComplete}
use Rattle.za_local.specs.Locals.{LocalState}
use Rattle.za_local.specs.Benches.{LocalStates}
use Rattle.za_cache.specs.Lines.{LineKey}
use Rattle.za_records.specs.Shelf.{Changes}
use Rattle.za_shared.specs.Records.{AreOpened, bound}
use Rattle.za_shared.specs.Marks.{AreMarked}
use Rattle.za_shared.specs.Private.Inside.{lines_of_rows, cache_in}
use Rattle.za_shared.proofs.Openings.{opened-all, opened-marks}
use Rattle.za_shared.proofs.shared.SharedLocals.open.Goals as goal
use Rattle.za_shared.proofs.shared.SharedLocals.open.Goals.{In_ok-bench}

-- the number of processes
processes : (c : In_ok-bench) → c.processes-n.result ≡ c.args.closed.alphabet.processes
processes c = c.processes-n.ensures.value
    ∙ ap (λ (a : DistributedAlphabet). a.processes) (c.alphabet.ensures ∙ ap (λ (d : CompleteDfa). d.alphabet) c.dfa-2.ensures.value)

all : (c : In_ok-bench) → AreOpened c.args.closed c.args.cache
    (record {
      dfa = c.args.closed;
      cache = cache_in c.in_ok-rows.rows;
      shelf = c.put-key.new.self;
      own = [];
      keys = c.in_ok-keys.keys.items;
      lines = lines_of_rows c.in_ok-rows.rows;
      spares = c.in_ok-spares.spares.items;
    })
all c =
    let d = c.args.closed in
    let n = processes c in
    let key : ℕ = c.put-key.result.0 in
    let whole : IsComplete d = subst IsComplete c.dfa.ensures.value c.states-states.ensures.whole in
    let v : LocalState = c.in_ok-first.first in
    let keys : c.in_ok-keys.keys.items ≡ replicate d.alphabet.processes key = c.in_ok-keys.ensures.items_if_clones_equal (λ y e. e)
    ∙ ap (λ (k : ℕ). replicate k key) n in
    let cap = c.in_ok-shelf.ensures.capacity ∙ ap (λ (k : ℕ). bound k c.args.cache) n in
    let b = ap (λ (k : ℕ). bound k c.args.cache) n in
    let rest = c.in_ok-spares.ensures.count in
    subst (λ (ls : List (LineKey × ℕ)). AreOpened d c.args.cache
    (record {
      dfa = d;
      cache = cache_in c.in_ok-rows.rows;
      shelf = c.put-key.new.self;
      own = [];
      keys = c.in_ok-keys.keys.items;
      lines = ls;
      spares = c.in_ok-spares.spares.items;
    })) (sym c.in_ok-rows.ensures.lines)
    (opened-all d whole c.args.cache
    (let f = c.ranges.cache.fits in omega arith) c.in_ok-shelf.shelf c.put-key.new.self key v c.in_ok-first.ensures c.in_ok-keys.keys.items
    c.in_ok-spares.spares.items c.in_ok-shelf.ensures.empty
    (subst (λ (k : ℕ). Changes c.in_ok-shelf.shelf c.put-key.new.self key (Some (record { value = v; count = k }))) n c.put-key.ensures.changes)
    c.put-key.ensures.live cap keys (omega arith) c.in_ok-spares.ensures.shaped
    (cache_in c.in_ok-rows.rows) c.in_ok-rows.ensures.cache)

pub invariant_of-result : goal.invariant_of-result
invariant_of-result c =
    let n = processes c in
    let a = c.in_ok-spares.ensures.room in
    let b = ap (λ (k : ℕ). bound k c.args.cache) n in
    let e = ap (bound c.args.closed.alphabet.processes) c.in_ok-rows.ensures.cache in
    record {
      records = (all c).records;
      room = omega arith;
      processes = ap (λ (x : LocalStates). x.processes) c.in_ok-bench.ensures;
      states = ap (λ (x : LocalStates). x.states) c.in_ok-bench.ensures;
      marks = subst (AreMarked c.put-key.new.self) (sym (c.in_ok-marks.ensures.items_if_clones_equal (λ y e. e)))
          (opened-marks c.args.closed (subst IsComplete c.dfa.ensures.value c.states-states.ensures.whole) c.args.cache
          (let f = c.ranges.cache.fits in omega arith) c.in_ok-shelf.shelf c.put-key.new.self c.put-key.result.0 c.in_ok-first.first c.in_ok-first.ensures
          c.in_ok-keys.keys.items c.in_ok-spares.spares.items c.in_ok-shelf.ensures.empty
          (subst (λ (k : ℕ). Changes c.in_ok-shelf.shelf c.put-key.new.self c.put-key.result.0 (Some (record { value = c.in_ok-first.first; count = k }))) n
          c.put-key.ensures.changes)
          c.put-key.ensures.live (c.in_ok-shelf.ensures.capacity ∙ b)
          (c.in_ok-keys.ensures.items_if_clones_equal (λ y e. e) ∙ ap (λ (k : ℕ). replicate k c.put-key.result.0) n)
          (let rest = c.in_ok-spares.ensures.count in omega arith) c.in_ok-spares.ensures.shaped
          c.mark_of.result (bound c.processes-n.result c.args.cache) c.mark_of.ensures);
    }

pub returns : goal.returns
returns c = all c
