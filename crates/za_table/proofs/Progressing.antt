-- The lists of a table after an event.
use Rattle.std.proofs.Common.{◌≡◌, ℕ, suc, ◌+◌, ◌<◌, Bool, inl, inr, List, [], ◌∷◌, ◌++◌, Option, Some, None, Vec, Global, length, slice_index}
use Rattle.std.proofs.Common.{slice_index_or, cond, sym, ap, ◌∙◌, arith, length-append}
use Rattle.std.specs.Prelude.{if◌then◌else◌}
use Rattle.std.proofs.Math.Seq.{get_or-append_seam}
use Rattle.std.proofs.lemmas.Bool.{cases_Bool, cases_lt, cond-true, cond-false}
use Rattle.std.proofs.lemmas.List.{get_or_append_left, length-map}
use Rattle.za_alpha.specs.declared.word.Letter.{Letter}
use Rattle.za_alpha.specs.Letters.{numbers}
use Rattle.za_alpha.specs.Words.{has, IsWord}
use Rattle.za_alpha.specs.Search.{greatest}
use Rattle.za_order.specs.Views.{participants}
use Rattle.za_order.specs.Labels.{label}
use Rattle.za_order.proofs.NextLetter.{length-next, word-next, agrees, at-seam}
use Rattle.za_order.proofs.Participants.{word-over}
use Rattle.za_order.proofs.Prefixes.{greatest-same, label-same}
use Rattle.za_machine.specs.Machine.{Machine, IsMachine, fired_by}
use Rattle.za_machine.proofs.States.{fired_by-own, fired_by-other}
use Rattle.za_table.specs.declared.progress.Progress.{Progress}
use Rattle.za_table.specs.Tables.{last_event}
use Rattle.za_table.specs.Private.Steps.{IsProgress, HasAppended}

-- others have arrived and ended
pub with-others : (m : Machine) (p : Progress) (arrived ended : Vec Bool Global) → IsProgress m p → length arrived.items ≡ m.processes →
    length ended.items ≡ m.processes →
    IsProgress m (record p { arrived = arrived; ended = ended })
with-others m p arrived ended ok a e = record {
  labels_size = ok.labels_size;
  labels = ok.labels;
  arrived_size = a;
  ended_size = e;
  counts_size = ok.counts_size;
  counts = ok.counts;
  latest_size = ok.latest_size;
  latest = ok.latest;
  journal_room = ok.journal_room;
  labels_room = ok.labels_room;
}

module _ (m : Machine) (w : List ℕ) (a : ℕ) where
  -- the latest event of a participant is the new one, and that of each other process as before
  last-next : (p : ℕ) → last_event m (w ++ a ∷ []) p ≡ (if has (m.loc a) p then Some (length w) else last_event m w p)
  last-next p =
      let v = w ++ a ∷ [] in
      let test : ℕ → Bool = λ i. has (participants m.loc v i) p in
      ap (greatest test) (length-next w a)
      ∙ ap (λ (b : Bool). if b then Some (length w) else greatest test (length w)) (at-seam m.loc w a p)
      ∙ ap (λ (o : Option ℕ). if has (m.loc a) p then Some (length w) else o)
      (greatest-same test (λ i. has (participants m.loc w i) p) (length w) (λ i l. ap (λ (b : ℕ). has (m.loc b) p) (agrees w a i l)))

  fired-next : (p : ℕ) → fired_by m (w ++ a ∷ []) p ≡ fired_by m w p + cond (has (m.loc a) p) 1 0
  fired-next p = elim (cases_Bool (has (m.loc a) p)) [
    | inl own ↦ let s = fired_by-own m w a p own in let y : cond {A = ℕ} (has (m.loc a) p) 1 0 ≡ 1 = cond-true (has (m.loc a) p) 1 0 own in omega arith
    | inr off ↦ let s = ap length (fired_by-other m w a p off) in let y : cond {A = ℕ} (has (m.loc a) p) 1 0 ≡ 0 = cond-false (has (m.loc a) p) 1 0 off in
        omega arith
  ]

  label-next : IsMachine m → IsWord m.letters w → a < m.letters → (i : ℕ) → i < length w → label m.loc m.processes w i ≡ label m.loc m.processes (w ++ a ∷ []) i
  label-next ok word l i k = label-same m.loc m.letters m.processes (length w) w (w ++ a ∷ []) i (record {
    first = word-over m.loc m.letters m.processes w ok.alphabet word;
    second = word-over m.loc m.letters m.processes (w ++ a ∷ []) ok.alphabet (word-next m.letters w a word l);
    in_first = omega arith;
    in_second = let e = length-next w a in omega arith;
    same = λ j n. sym (agrees w a j n);
  }) k

module _ (m : Machine) (p q : Progress) (a l : ℕ) (ok : IsMachine m) (is : IsProgress m p) (h : HasAppended p q a l (m.loc a))
    (word : IsWord m.letters (numbers p.journal.items)) (small : a < m.letters)
    (own : l ≡ label m.loc m.processes (numbers p.journal.items ++ a ∷ []) (length p.journal.items)) where
  long : length (numbers p.journal.items) ≡ length p.journal.items
  long = length-map p.journal.items (λ (b : Letter). b.0)

  longer : length q.journal.items ≡ suc (length p.journal.items)
  longer = sym (length-map q.journal.items (λ (b : Letter). b.0)) ∙ ap length h.journal ∙ length-next (numbers p.journal.items) a ∙ ap suc long

  labelled : (i : ℕ) → i < length q.journal.items → slice_index q.labels.items i ≡ label m.loc m.processes (numbers p.journal.items ++ a ∷ []) i
  labelled i k = ap (λ (xs : List ℕ). slice_index xs i) h.labels ∙ elim (cases_lt i (length p.journal.items)) [
    | inl s ↦ get_or_append_left p.labels.items (l ∷ []) 0 i (let e = is.labels_size in omega arith) ∙ is.labels i s
        ∙ label-next m (numbers p.journal.items) a ok word small i (let e = long in omega arith)
    | inr g ↦
        let e : i ≡ length p.labels.items = let n = longer in let z = is.labels_size in omega arith in
        ap (slice_index (p.labels.items ++ l ∷ [])) e ∙ get_or-append_seam p.labels.items l [] 0 ∙ own
        ∙ ap (label m.loc m.processes (numbers p.journal.items ++ a ∷ [])) (sym is.labels_size ∙ sym e)
  ]

  pub appended : IsProgress m q
  appended = record {
    labels_size = let e = ap length h.labels in let k = length-append p.labels.items (l ∷ []) in let z = is.labels_size in let n = longer in omega arith;
    labels = λ i k. labelled i k ∙ ap (λ (w : List ℕ). label m.loc m.processes w i) (sym h.journal);
    arrived_size = ap length h.arrived ∙ Rattle.za_machine.proofs.States.length-without (m.loc a) p.arrived.items ∙ is.arrived_size;
    ended_size = ap length h.ended ∙ is.ended_size;
    counts_size = h.counts_size ∙ is.counts_size;
    counts = λ x k. h.counts x (let z = is.counts_size in omega arith) ∙ ap (λ (n : ℕ). n + cond (has (m.loc a) x) 1 0) (is.counts x k)
        ∙ sym (fired-next m (numbers p.journal.items) a x) ∙ ap (λ (w : List ℕ). fired_by m w x) (sym h.journal);
    latest_size = h.latest_size ∙ is.latest_size;
    latest = λ x k. h.latest x (let z = is.latest_size in omega arith)
        ∙ ap (λ (n : ℕ). if has (m.loc a) x then Some n else slice_index_or p.latest.items x None) (sym long)
        ∙ ap (λ (o : Option ℕ). if has (m.loc a) x then Some (length (numbers p.journal.items)) else o) (is.latest x k)
        ∙ sym (last-next m (numbers p.journal.items) a x) ∙ ap (λ (w : List ℕ). last_event m w x) (sym h.journal);
    journal_room = let e = h.journal_room in let z = is.journal_room in omega arith;
    labels_room = let e = h.labels_room in let z = is.labels_room in omega arith;
  }
