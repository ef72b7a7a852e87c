use Rattle.std.proofs.Common.{◌≡◌, ℕ, Bool, List, Option, Some, None, arith, length, slice_index, slice_index_or, refl, ap, subst, ◌∙◌}
use Rattle.std.specs.Prelude.{if◌then◌else◌}
use Rattle.za_alpha.specs.Words.{has}
use Rattle.za_alpha.specs.Procs.{members}
use Rattle.za_shared.proofs.Vectors.{written}
use Rattle.za_table.specs.Private.Steps.{Tally, HasTallied}
use Rattle.za_table.proofs.Entries.{without_is, journal-more}
use Rattle.za_table.proofs.progress.Progress.append.Goals as goal

pub returns-clause-appended : goal.returns-clause-appended
returns-clause-appended c =
    let s = c.args.self.now in
    let ps = members c.args.processes in
    let old : Tally = record { counts = s.counts.items; arrived = s.arrived.items; latest = s.latest.items } in
    let new : Tally = record { counts = c.tally.new.counts; arrived = c.tally.new.arrived; latest = c.tally.new.latest } in
    let at : s.journal.len ≡ length s.journal.items = let ok = s.journal.ok in omega arith in
    let t : HasTallied old new (length s.counts.items) ps c.len-at.result =
    subst (λ (xs : List ℕ). HasTallied (record { counts = xs; arrived = s.arrived.items; latest = s.latest.items }) new (length xs) ps c.len-at.result)
    c.deref_mut.ensures.value
    (subst (λ (xs : List Bool). HasTallied (record { counts = c.deref_mut.result.now; arrived = xs; latest = s.latest.items }) new
    (length c.deref_mut.result.now) ps c.len-at.result) c.deref_mut-2.ensures.value
    (subst (λ (xs : List (Option ℕ)). HasTallied (record { counts = c.deref_mut.result.now; arrived = c.deref_mut-2.result.now; latest = xs }) new
    (length c.deref_mut.result.now) ps c.len-at.result)
    c.deref_mut-3.ensures.value c.tally.ensures)) in
    let counts = written s.counts c.tally.new.counts t.counts_size in
    let arrived = written s.arrived c.tally.new.arrived t.arrived_size in
    let latest = written s.latest c.tally.new.latest t.latest_size in
    let same = c.requires.arrived in
    let long = c.requires.latest in
    record {
      journal = journal-more s.journal.items c.push_reserved.new.self.items c.args.a c.push_reserved.ensures.items;
      labels = c.push_reserved-2.ensures.items;
      arrived = arrived ∙ without_is ps s.arrived.items c.tally.new.arrived t.arrived_size (λ p l. t.arrived p (omega arith));
      ended = refl;
      counts_size = ap length counts ∙ t.counts_size;
      counts = λ p l. ap (λ (xs : List ℕ). slice_index xs p) counts ∙ t.counts p l;
      latest_size = ap length latest ∙ t.latest_size;
      latest = λ p l. ap (λ (xs : List (Option ℕ)). slice_index_or xs p None) latest ∙ t.latest p (omega arith)
          ∙ ap (λ (k : ℕ). if has ps p then Some k else slice_index_or s.latest.items p None) (c.len-at.ensures ∙ at);
      journal_room = c.push_reserved.ensures.capacity;
      labels_room = c.push_reserved-2.ensures.capacity;
    }
