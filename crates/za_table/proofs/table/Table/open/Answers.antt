use Rattle.std.proofs.Common.{◌≡◌, ℕ, ◌≤◌, Option, None, replicate, sym, ap, subst, ◌∙◌, arith, length, refl}
use Rattle.za_alpha.specs.Alphabet.{DistributedAlphabet}
use Rattle.za_dfa.specs.Tables.{CompleteDfa}
use Rattle.za_script.specs.Scripts.{total}
use Rattle.za_script.specs.ScriptLists.{script_of}
use Rattle.za_machine.specs.Hands.{no_hands}
use Rattle.za_table.specs.Tables.{Given, machine_of}
use Rattle.za_machine.specs.Machine.{State}
use Rattle.za_table.specs.Private.Steps.{IsProgress, AreAllMissing, AreLocated}
use Rattle.za_table.proofs.Missing.{missing-first}
use Rattle.za_table.proofs.Beginnings.{started-state, started-progress, opens}
use Rattle.za_table.proofs.table.Table.open.Goals as goal
use Rattle.za_table.proofs.table.Table.open.Goals.{In_ok-shared}

abbrev given : (c : In_ok-shared) → Given
given c = record { dfa = c.args.closed; scripts = c.args.scripts }

processes : (c : In_ok-shared) → c.processes.result ≡ c.args.closed.alphabet.processes
processes c = c.processes.ensures.value ∙ c.requires.processes

hands : (c : In_ok-shared) → c.in_ok-hands.hands.items ≡ no_hands (machine_of (given c))
hands c =
    let m : c.letters-letters.result ≡ length c.args.closed.alphabet.letters = c.letters-letters.ensures.value ∙ ap
    (λ (x : DistributedAlphabet). length x.letters) (c.alphabet.ensures ∙ ap (λ (x : CompleteDfa). x.alphabet) c.dfa.ensures.value) in
    c.in_ok-hands.ensures ∙ ap (λ (k : ℕ). replicate {A = Option ℕ} k None) m

room : (c : In_ok-shared) → total (script_of c.args.scripts) c.args.closed.alphabet.processes ≤ c.total.result
room c = subst (λ (k : ℕ). total (script_of c.args.scripts) k ≤ c.total.result) c.requires.processes (let e = c.total.ensures.value in omega arith)

same : (c : In_ok-shared) → record { dfa = c.in_ok-shared.shared.dfa; scripts = c.args.scripts } ≡ given c
same c = ap (λ (x : CompleteDfa). record { dfa = x; scripts = c.args.scripts }) c.in_ok-shared.ensures.dfa

abbrev state : (c : In_ok-shared) → State
state c = let p = c.in_ok-progress.progress in record {
  journal = Rattle.za_alpha.specs.Letters.numbers p.journal.items;
  arrived = p.arrived.items;
  ended = p.ended.items;
}

located : (c : In_ok-shared) → AreLocated c.args.closed.alphabet (length c.args.closed.alphabet.letters) c.in_ok-missing.missing.items
located c = subst (λ (al : DistributedAlphabet). AreLocated al (length al.letters) c.in_ok-missing.missing.items)
    (c.alphabet-2.ensures ∙ ap (λ (x : CompleteDfa). x.alphabet) c.dfa-2.ensures.value) c.in_ok-missing.ensures

pub invariant_of-result : goal.invariant_of-result
invariant_of-result c =
    let g = given c in
    let p = c.in_ok-progress.progress in
    record {
      table = opens g c.args.cache (record {
        given = record { dfa = c.in_ok-shared.shared.dfa; scripts = c.args.scripts };
        state = record { journal = Rattle.za_alpha.specs.Letters.numbers p.journal.items; arrived = p.arrived.items; ended = p.ended.items };
        hands = c.in_ok-hands.hands.items;
        shared = c.in_ok-shared.shared;
      }) c.requires (same c) (started-state c.processes.result c.total.result (machine_of g) p c.in_ok-progress.ensures (processes c))
          (hands c) refl c.in_ok-shared.ensures;
      progress = subst (λ (x : Given). IsProgress (machine_of x) p) (sym (same c))
          (started-progress c.processes.result c.total.result (machine_of g) p c.in_ok-progress.ensures (processes c) (room c));
      missing = subst (λ (x : Given). AreAllMissing (machine_of x) (state c) c.in_ok-missing.missing.items) (sym (same c))
          (subst (λ (x : State). AreAllMissing (machine_of g) x c.in_ok-missing.missing.items)
          (sym (started-state c.processes.result c.total.result (machine_of g) p c.in_ok-progress.ensures (processes c)))
          (missing-first (machine_of g) c.args.closed.alphabet c.in_ok-missing.missing.items refl refl (located c)));
    }
