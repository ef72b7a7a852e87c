-- Local states that are put on a bench, process by process.
use Rattle.std.proofs.Common.{◌≡◌, ℕ, ◌+◌, ◌<◌, ◌≤◌, true, false, inl, inr, List, [], ◌∷◌, ◌++◌, length, get_or, map, set, refl, sym, ap, subst, ◌∙◌, arith}
use Rattle.std.proofs.lemmas.Bool.{cases_eq}
use Rattle.std.proofs.lemmas.List.{get_or-set_same, get_or-set_other, length-set}
use Rattle.za_alpha.specs.declared.procs.Procs.{Procs}
use Rattle.za_alpha.specs.Words.{has}
use Rattle.za_alpha.specs.Procs.{members, members_below}
use Rattle.za_alpha.proofs.Members.{members_below-zero}
use Rattle.za_order.proofs.Rising.{map-members-in, map-members-out}
use Rattle.za_dfa.specs.Tables.{CompleteDfa}
use Rattle.za_local.specs.Locals.{LocalState, local_after, AreAllLocalsAfter, HasShape}
use Rattle.za_local.specs.Benches.{LocalStates, none_of}
use Rattle.za_local.proofs.Given.{local-at}
use Rattle.za_local.proofs.Shapes.{shape-after}

-- those of the set below x are on the bench, and the others where they were
pub record AreGathered (d : CompleteDfa) (s : Procs) (initial locals : List LocalState) (bench : LocalStates) (x : ℕ) : Type 0 where
  pub processes : bench.processes ≡ d.alphabet.processes
  pub states : bench.states ≡ d.states
  pub many : length locals ≡ length initial
  pub taken : (w : List ℕ) → AreAllLocalsAfter d w initial → bench.locals ≡ map (local_after d w) (members_below s x)
  pub rest : (q : ℕ) (e : LocalState) → x ≤ q → get_or locals q e ≡ get_or initial q e
  pub others : (q : ℕ) (e : LocalState) → has (members s) q ≡ false → get_or locals q e ≡ get_or initial q e
  pub shapes : (w : List ℕ) → AreAllLocalsAfter d w initial → (q : ℕ) (e : LocalState) → q < d.alphabet.processes →
      HasShape d.alphabet.processes d.states (get_or locals q e)

module _ (d : CompleteDfa) (s : Procs) (initial : List LocalState) where
  pub gathered-none : (bench was : LocalStates) → was.processes ≡ d.alphabet.processes → was.states ≡ d.states → bench ≡ none_of was.processes was.states →
      AreGathered d s initial initial bench 0
  gathered-none bench was n k e = record {
    processes = ap (λ (b : LocalStates). b.processes) e ∙ n;
    states = ap (λ (b : LocalStates). b.states) e ∙ k;
    many = refl;
    taken = λ w h. ap (λ (b : LocalStates). b.locals) e ∙ sym (ap (map (local_after d w)) (members_below-zero s));
    rest = λ q e l. refl;
    others = λ q e f. refl;
    shapes = λ w h q e l. subst (HasShape d.alphabet.processes d.states) (sym (local-at d w initial h q e l)) (shape-after d w q);
  }

  -- one of the set more, for which something of its shape is there now
  pub gathered-in : (locals : List LocalState) (bench after : LocalStates) (x : ℕ) (own new : LocalState) → x < d.alphabet.processes → x < 16 →
      x < length locals → has (members s) x ≡ true →
      AreGathered d s initial locals bench x → own ≡ get_or locals x own → after ≡ record bench { locals = bench.locals ++ own ∷ [] } →
      HasShape d.alphabet.processes d.states new →
      AreGathered d s initial (set locals x new) after (x + 1)
  gathered-in locals bench after x own new l few inside t k is e shape = record {
    processes = ap (λ (b : LocalStates). b.processes) e ∙ k.processes;
    states = ap (λ (b : LocalStates). b.states) e ∙ k.states;
    many = length-set locals x new ∙ k.many;
    taken = λ w h.
        ap (λ (b : LocalStates). b.locals) e ∙ ap (λ ls. ls ++ own ∷ []) (k.taken w h)
        ∙ ap (λ v. map (local_after d w) (members_below s x) ++ v ∷ []) (is ∙ k.rest x own (omega arith) ∙ local-at d w initial h x own l)
        ∙ sym (map-members-in (local_after d w) s x few t);
    rest = λ q e high. get_or-set_other locals x q new e (λ same. absurd (omega arith)) ∙ k.rest q e (omega arith);
    others = λ q e f. get_or-set_other locals x q new e (λ same. absurd (let z : true ≡ false = sym t ∙ ap (has (members s)) (sym same) ∙ f in cc))
        ∙ k.others q e f;
    shapes = λ w h q e lq. elim (cases_eq q x) [
      | inl same ↦
          subst (HasShape d.alphabet.processes d.states) (sym (ap (λ i. get_or (set locals x new) i e) same ∙ get_or-set_same locals x new e inside)) shape
      | inr other ↦ subst (HasShape d.alphabet.processes d.states) (sym (get_or-set_other locals x q new e other)) (k.shapes w h q e lq)
    ];
  }

  -- one that is not of it
  pub gathered-out : (locals : List LocalState) (bench : LocalStates) (x : ℕ) → x < 16 → has (members s) x ≡ false → AreGathered d s initial locals bench x →
      AreGathered d s initial locals bench (x + 1)
  gathered-out locals bench x few f k = record {
    processes = k.processes;
    states = k.states;
    many = k.many;
    taken = λ w h. k.taken w h ∙ sym (map-members-out (local_after d w) s x few f);
    rest = λ q e high. k.rest q e (omega arith);
    others = k.others;
    shapes = k.shapes;
  }
