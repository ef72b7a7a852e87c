-- A table after a firing.
use Rattle.std.proofs.Common.{◌≡◌, ℕ, ◌<◌, ◌≤◌, true, List, [], ◌∷◌, ◌++◌, Bool, Option, length, slice_index, slice_set, refl, sym, ap, subst, ◌∙◌, arith}
use Rattle.std.proofs.Common.{length-append}
use Rattle.std.proofs.lemmas.List.{length-map}
use Rattle.za_alpha.specs.declared.word.Letter.{Letter}
use Rattle.za_alpha.specs.Letters.{numbers}
use Rattle.za_alpha.specs.Words.{has}
use Rattle.za_alpha.specs.declared.procs.Procs.{Procs}
use Rattle.za_alpha.specs.Procs.{members}
use Rattle.za_alpha.specs.Alphabet.{loc_of}
use Rattle.za_dfa.specs.Tables.{CompleteDfa}
use Rattle.za_script.specs.Scripts.{total}
use Rattle.za_script.specs.ScriptLists.{script_of}
use Rattle.za_script.proofs.Confluence.{fits-length}
use Rattle.za_script.proofs.Totals.{length-le-total}
use Rattle.za_machine.specs.Machine.{State, IsMachineState, Fire, fire, without, IsAllowed}
use Rattle.za_machine.specs.Hands.{AreInHand}
use Rattle.za_machine.proofs.States.{reached-sound, reached_more, complete-here}
use Rattle.za_shared.specs.Records.{Records, AreRecords, HasFired}
use Rattle.za_table.specs.declared.table.Table.TheInside.{Inside}
use Rattle.za_table.specs.declared.progress.Progress.{Progress}
use Rattle.za_table.specs.Tables.{Given, IsTable, machine_of, label_at}
use Rattle.za_table.specs.Private.Steps.{HasAppended, IsProgress, AreAllMissing}
use Rattle.za_table.specs.Private.Inside.{given_in, state_in, table_in, IsTableInside}
use Rattle.za_table.proofs.Keeping.{machine, sound, fires}
use Rattle.za_table.proofs.Progressing.{appended}
use Rattle.za_table.proofs.Missing.{missing-fired}

module _ (t : Inside) (ok : IsTableInside t) (a : ℕ) (h : IsAllowed (machine_of (given_in t)) (state_in t) (Fire a)) where
  long : length (numbers t.progress.journal.items) ≡ length t.progress.journal.items
  long = length-map t.progress.journal.items (λ (l : Letter). l.0)

  -- there is a letter of the scripts that is not in the journal
  pub room : length t.progress.journal.items < total (script_of t.scripts) t.shared.dfa.alphabet.processes
  room =
      let m = machine_of (given_in t) in
      let c = state_in t in
      let s = reached-sound m (fire m.loc a c) (reached_more m c (Fire a) ok.table.reached h) in
      let k = fits-length m.loc m.letters m.scripts m.processes (c.journal ++ a ∷ []) (machine (table_in t) ok.table).alphabet s.fits in
      let e = length-append c.journal (a ∷ []) in
      let l = long in omega arith

  -- the counts are small
  pub counts-le : (p : ℕ) → has (loc_of t.shared.dfa.alphabet a) p ≡ true → slice_index t.progress.counts.items p ≤ total (script_of t.scripts)
      t.shared.dfa.alphabet.processes
  counts-le p k =
      let m = machine_of (given_in t) in
      let c = state_in t in
      let below = (machine (table_in t) ok.table).alphabet.below a p h.0 k in
      let w = (sound (table_in t) ok.table).waits p (complete-here m c a p h.1 k) in
      let e = ok.progress.counts p below in
      let l = length-le-total m.scripts m.processes p below in omega arith

  module _ (hands : List (Option ℕ)) (moved : IsMachineState (machine_of (given_in t)) (fire (loc_of t.shared.dfa.alphabet) a (state_in t)) × AreInHand
      (machine_of (given_in t)) (fire (loc_of t.shared.dfa.alphabet) a (state_in t)) hands)
      (r : Records) (q : Progress) (f : HasFired t.shared r a) (records : AreRecords r)
      (more : HasAppended t.progress q a (label_at r.dfa (numbers t.progress.journal.items ++ a ∷ []) (length t.progress.journal.items))
      (loc_of r.dfa.alphabet a)) where
    here : HasAppended t.progress q a (label_at t.shared.dfa (numbers t.progress.journal.items ++ a ∷ []) (length t.progress.journal.items))
        (loc_of t.shared.dfa.alphabet a)
    here = subst (λ (d : CompleteDfa). HasAppended t.progress q a (label_at d (numbers t.progress.journal.items ++ a ∷ []) (length t.progress.journal.items))
        (loc_of d.alphabet a)) f.dfa more

    same : record { dfa = r.dfa; scripts = t.scripts } ≡ given_in t
    same = ap (λ (d : CompleteDfa). record { dfa = d; scripts = t.scripts }) f.dfa

    pub state-after : record { journal = numbers q.journal.items; arrived = q.arrived.items; ended = q.ended.items } ≡ fire (loc_of t.shared.dfa.alphabet) a
        (state_in t)
    state-after =
        let make : List ℕ → List Bool → List Bool → State = λ w x y. record { journal = w; arrived = x; ended = y } in
        ap (λ w. make w q.arrived.items q.ended.items) here.journal ∙ ap (λ x. make (numbers t.progress.journal.items ++ a ∷ []) x q.ended.items) here.arrived
        ∙ ap (λ y. make (numbers t.progress.journal.items ++ a ∷ []) (without (loc_of t.shared.dfa.alphabet a) 0 t.progress.arrived.items) y) here.ended

    pub table-after : IsTable (record {
      given = record { dfa = r.dfa; scripts = t.scripts };
      state = record { journal = numbers q.journal.items; arrived = q.arrived.items; ended = q.ended.items };
      hands = hands;
      shared = r;
    })
    table-after = fires (table_in t) ok.table (record {
      given = record { dfa = r.dfa; scripts = t.scripts };
      state = record { journal = numbers q.journal.items; arrived = q.arrived.items; ended = q.ended.items };
      hands = hands;
      shared = r;
    }) a hands moved same state-after refl refl f records

    pub progress-after : IsProgress (machine_of (record { dfa = r.dfa; scripts = t.scripts })) q
    progress-after = subst (λ (g : Given). IsProgress (machine_of g) q) (sym same)
        (appended (machine_of (given_in t)) t.progress q a (label_at t.shared.dfa (numbers t.progress.journal.items ++ a ∷ [])
        (length t.progress.journal.items))
        (machine (table_in t) ok.table) ok.progress here ok.table.locals.word h.0 refl)

    pub missing-after : (all : Procs) → members all ≡ loc_of t.shared.dfa.alphabet a →
        AreAllMissing (machine_of (record { dfa = r.dfa; scripts = t.scripts }))
        (record { journal = numbers q.journal.items; arrived = q.arrived.items; ended = q.ended.items }) (slice_set t.missing.items a all)
    missing-after all are =
        subst (λ (g : Given). AreAllMissing (machine_of g) (record { journal = numbers q.journal.items; arrived = q.arrived.items; ended = q.ended.items })
        (slice_set t.missing.items a all))
        (sym same)
        (subst (λ (c : State). AreAllMissing (machine_of (given_in t)) c (slice_set t.missing.items a all)) (sym state-after)
        (missing-fired (machine_of (given_in t)) (state_in t) a h.1 t.missing.items ok.missing all are h.0))
