-- What the calls of a table keep of what holds of each table.
use Rattle.std.proofs.Common.{◌≡◌, ℕ, [], List, Option, Some, None, sym, ap, subst, arith, slice_set}
use Rattle.std.proofs.lemmas.List.{get_or_past}
use Rattle.za_alpha.specs.Alphabet.{IsDistributed, loc_of}
use Rattle.za_dfa.specs.Tables.{CompleteDfa, IsComplete}
use Rattle.za_script.specs.ScriptLists.{FitAlphabet}
use Rattle.za_machine.specs.Machine.{IsMachine, State, IsMachineState, Event, Arrive, End, arrive, fire, end_at, after_event, IsAllowed}
use Rattle.za_machine.specs.Hands.{hand, AreInHand, IsInHand, IsFree, Happen, TakeUp, Settle, PutBack}
use Rattle.za_machine.specs.Private.Standing.{IsSound}
use Rattle.za_machine.proofs.States.{reached-sound}
use Rattle.za_machine.proofs.Moves.{moves_keep_hands}
use Rattle.za_local.specs.Locals.{AreAllLocalsAfter}
use Rattle.za_shared.specs.Records.{AreRecords, HasFired, locals_of}
use Rattle.za_table.specs.Tables.{Given, TableState, IsTable, machine_of}

is-machine : (g : Given) → IsDistributed g.dfa.alphabet → FitAlphabet g.dfa.alphabet g.scripts → IsMachine (machine_of g)
is-machine g whole fit = record {
  alphabet = whole.located;
  beyond = λ p h. get_or_past g.scripts p [] (let e = fit.processes in omega arith);
}

module _ (t : TableState) (ok : IsTable t) where
  pub complete : IsComplete t.given.dfa
  complete = subst IsComplete ok.dfa ok.records.complete

  pub whole : IsDistributed t.given.dfa.alphabet
  whole = complete.distributed

  pub machine : IsMachine (machine_of t.given)
  machine = is-machine t.given whole ok.fit

  pub sound : IsSound (machine_of t.given) t.state
  sound = reached-sound (machine_of t.given) t.state ok.reached

  pub happens : (e : Event) → IsAllowed (machine_of t.given) t.state e → IsFree t.hands e →
      IsMachineState (machine_of t.given) (after_event (machine_of t.given) t.state e) × AreInHand (machine_of t.given)
      (after_event (machine_of t.given) t.state e) t.hands
  happens e k f = moves_keep_hands (machine_of t.given) t.state t.hands (Happen e) machine ok.reached ok.in_hand (k, f)

  pub settled : (a p : ℕ) → hand t.hands a ≡ Some p →
      IsMachineState (machine_of t.given) (fire (loc_of t.given.dfa.alphabet) a t.state) × AreInHand (machine_of t.given)
      (fire (loc_of t.given.dfa.alphabet) a t.state) (slice_set t.hands a None)
  settled a p h = moves_keep_hands (machine_of t.given) t.state t.hands (Settle a p) machine ok.reached ok.in_hand h

  pub arrives : (p : ℕ) → IsAllowed (machine_of t.given) t.state (Arrive p) → IsTable (record t { state = arrive p t.state })
  arrives p h =
      let k = happens (Arrive p) h tt in
      record { fit = ok.fit; reached = k.0; in_hand = k.1; dfa = ok.dfa; locals = ok.locals; records = ok.records; free = ok.free }

  pub ends : (p : ℕ) → IsAllowed (machine_of t.given) t.state (End p) → IsTable (record t { state = end_at p t.state })
  ends p h =
      let k = happens (End p) h tt in
      record { fit = ok.fit; reached = k.0; in_hand = k.1; dfa = ok.dfa; locals = ok.locals; records = ok.records; free = ok.free }

  pub takes_up : (a p : ℕ) → IsInHand (machine_of t.given) t.state a p → hand t.hands a ≡ None → IsTable (record t { hands = slice_set t.hands a (Some p) })
  takes_up a p i f =
      let k = moves_keep_hands (machine_of t.given) t.state t.hands (TakeUp a p) machine ok.reached ok.in_hand (i, f) in
      record { fit = ok.fit; reached = k.0; in_hand = k.1; dfa = ok.dfa; locals = ok.locals; records = ok.records; free = ok.free }

  pub puts_back : (a p : ℕ) → hand t.hands a ≡ Some p → IsTable (record t { hands = slice_set t.hands a None })
  puts_back a p h =
      let k = moves_keep_hands (machine_of t.given) t.state t.hands (PutBack a p) machine ok.reached ok.in_hand h in
      record { fit = ok.fit; reached = k.0; in_hand = k.1; dfa = ok.dfa; locals = ok.locals; records = ok.records; free = ok.free }

  pub fires : (u : TableState) (a : ℕ) (hands : List (Option ℕ)) →
      IsMachineState (machine_of t.given) (fire (loc_of t.given.dfa.alphabet) a t.state) × AreInHand (machine_of t.given)
      (fire (loc_of t.given.dfa.alphabet) a t.state) hands →
      u.given ≡ t.given → u.state ≡ fire (loc_of t.given.dfa.alphabet) a t.state → u.hands ≡ hands → u.shared.dfa ≡ u.given.dfa → HasFired t.shared u.shared
      a → AreRecords u.shared → IsTable u
  fires u a hands moved g s k d f r =
      let n = fire (loc_of t.given.dfa.alphabet) a t.state in
      let here : AreAllLocalsAfter t.shared.dfa t.state.journal (locals_of t.shared) = subst
      (λ (x : CompleteDfa). AreAllLocalsAfter x t.state.journal (locals_of t.shared)) (sym ok.dfa) ok.locals in
      record {
        fit = subst (λ (x : Given). FitAlphabet x.dfa.alphabet x.scripts) (sym g) ok.fit;
        reached = subst (λ (x : Given). IsMachineState (machine_of x) u.state) (sym g)
            (subst (λ (x : State). IsMachineState (machine_of t.given) x) (sym s) moved.0);
        in_hand = subst (λ (x : Given). AreInHand (machine_of x) u.state u.hands) (sym g)
            (subst (λ (x : State). AreInHand (machine_of t.given) x u.hands) (sym s) (subst (λ (x : List (Option ℕ)). AreInHand (machine_of t.given) n x)
            (sym k) moved.1));
        dfa = d;
        locals = subst (λ (x : CompleteDfa). AreAllLocalsAfter x u.state.journal (locals_of u.shared)) d
            (subst (λ (w : List ℕ). AreAllLocalsAfter u.shared.dfa w (locals_of u.shared)) (sym (ap (λ (x : State). x.journal) s))
            (f.locals t.state.journal here));
        records = r;
        free = f.free;
      }
