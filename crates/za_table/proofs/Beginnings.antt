-- A table at the start.
use Rattle.std.proofs.Common.{◌≡◌, ℕ, ◌≤◌, false, Bool, List, [], Option, None, length, replicate, slice_index, slice_index_or, sym, ap, subst, ◌∙◌, arith}
use Rattle.std.proofs.lemmas.List.{length-replicate, get_or-replicate}
use Rattle.za_alpha.specs.declared.word.Letter.{Letter}
use Rattle.za_alpha.specs.Letters.{numbers}
use Rattle.za_script.specs.Scripts.{total}
use Rattle.za_script.specs.ScriptLists.{FitAlphabet}
use Rattle.za_dfa.specs.Tables.{CompleteDfa}
use Rattle.za_machine.specs.Machine.{Machine, State, IsMachineState, initial, fired_by}
use Rattle.za_machine.specs.Hands.{AreInHand, no_hands}
use Rattle.za_machine.proofs.States.{reached_initial}
use Rattle.za_machine.proofs.Moves.{no_hands_at_first}
use Rattle.za_local.specs.Locals.{AreAllLocalsAfter}
use Rattle.za_shared.specs.Records.{AreOpened, locals_of}
use Rattle.za_table.specs.declared.progress.Progress.{Progress}
use Rattle.za_table.specs.Tables.{Given, TableState, IsTable, machine_of, last_event}
use Rattle.za_table.specs.Private.Steps.{IsStarted, IsProgress}

pub started-state : (n events : ℕ) (m : Machine) (p : Progress) → IsStarted n events p → n ≡ m.processes →
    record { journal = numbers p.journal.items; arrived = p.arrived.items; ended = p.ended.items } ≡ initial m
started-state n events m p s e =
    let f : List ℕ → List Bool → List Bool → State = λ w a b. record { journal = w; arrived = a; ended = b } in
    ap (λ (xs : List Letter). f (numbers xs) p.arrived.items p.ended.items) s.journal ∙ ap (λ a. f [] a p.ended.items)
    (s.arrived ∙ ap (λ (k : ℕ). replicate k false) e)
    ∙ ap (λ b. f [] (replicate m.processes false) b) (s.ended ∙ ap (λ (k : ℕ). replicate k false) e)

pub started-progress : (n events : ℕ) (m : Machine) (p : Progress) → IsStarted n events p → n ≡ m.processes → total m.scripts m.processes ≤ events →
    IsProgress m p
started-progress n events m p s e r = record {
  labels_size = ap length s.labels ∙ sym (ap length s.journal);
  labels = λ i l. absurd (let z = ap length s.journal in omega arith);
  arrived_size = ap length s.arrived ∙ length-replicate n false ∙ e;
  ended_size = ap length s.ended ∙ length-replicate n false ∙ e;
  counts_size = ap length s.counts ∙ length-replicate n 0 ∙ e;
  counts = λ q l. ap (λ (xs : List ℕ). slice_index xs q) s.counts ∙ get_or-replicate n q 0 0 (omega arith) ∙ sym
      (ap (λ (xs : List Letter). fired_by m (numbers xs) q) s.journal);
  latest_size = ap length s.latest ∙ length-replicate {A = Option ℕ} n None ∙ e;
  latest = λ q l. ap (λ (xs : List (Option ℕ)). slice_index_or xs q None) s.latest ∙ get_or-replicate {A = Option ℕ} n q None None (omega arith) ∙ sym
      (ap (λ (xs : List Letter). last_event m (numbers xs) q) s.journal);
  journal_room = let z = s.journal_room in omega arith;
  labels_room = let z = s.labels_room in omega arith;
}

pub opens : (g : Given) (cache : ℕ) (u : TableState) → FitAlphabet g.dfa.alphabet g.scripts → u.given ≡ g → u.state ≡ initial (machine_of g) →
    u.hands ≡ no_hands (machine_of g) → u.shared.dfa ≡ u.given.dfa → AreOpened g.dfa cache u.shared → IsTable u
opens g cache u fit same state hands d opened = record {
  fit = subst (λ (x : Given). FitAlphabet x.dfa.alphabet x.scripts) (sym same) fit;
  reached = subst (λ (x : Given). IsMachineState (machine_of x) u.state) (sym same) (subst (λ (x : State). IsMachineState (machine_of g) x) (sym state)
      (reached_initial (machine_of g)));
  in_hand = subst (λ (x : Given). AreInHand (machine_of x) u.state u.hands) (sym same)
      (subst (λ (x : State). AreInHand (machine_of g) x u.hands) (sym state)
      (subst (λ (x : List (Option ℕ)). AreInHand (machine_of g) (initial (machine_of g)) x) (sym hands) (no_hands_at_first (machine_of g))));
  dfa = d;
  locals = subst (λ (x : CompleteDfa). AreAllLocalsAfter x u.state.journal (locals_of u.shared)) d
      (subst (λ (w : List ℕ). AreAllLocalsAfter u.shared.dfa w (locals_of u.shared)) (sym (ap (λ (x : State). x.journal) state)) opened.locals);
  records = opened.records;
  free = opened.free;
}
