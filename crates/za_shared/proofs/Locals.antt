-- Local states of participants among those of all processes.
use Rattle.std.proofs.Common.{◌≡◌, ℕ, ◌<◌, true, [], ◌∷◌, ◌++◌, List, refl, sym, subst, ◌∙◌, arith, length, slice_index}
use Rattle.std.proofs.lemmas.List.{get_or-map}
use Rattle.za_alpha.specs.Words.{has}
use Rattle.za_alpha.specs.Alphabet.{loc_of}
use Rattle.za_local.specs.Locals.{LocalState, AreLocalsAfter, AreAllLocalsAfter, local_after, HasShape}
use Rattle.za_local.proofs.Given.{local-at}
use Rattle.za_local.proofs.Shapes.{shape-after}
use Rattle.za_shared.specs.Holders.{no_local, value, values_at}
use Rattle.za_shared.specs.Records.{Records, AreRecords, AreOfAWord, IsTransition, locals_of}
use Rattle.za_shared.proofs.Carrying.{map-same}

-- the local state of a process
pub local-is : (r : Records) (w : List ℕ) (p : ℕ) → length r.keys ≡ r.dfa.alphabet.processes → p < r.dfa.alphabet.processes →
    AreAllLocalsAfter r.dfa w (locals_of r) →
    value r.shelf (slice_index r.keys p) ≡ local_after r.dfa w p
local-is r w p size l h = sym (get_or-map (value r.shelf) r.keys p 0 no_local (omega arith)) ∙ local-at r.dfa w (locals_of r) h p no_local l

-- those of some processes
pub those-after : (r : Records) (w ps : List ℕ) → AreRecords r → ((p : ℕ) → has ps p ≡ true → p < r.dfa.alphabet.processes) →
    AreAllLocalsAfter r.dfa w (locals_of r) →
    AreLocalsAfter r.dfa w ps (values_at r.shelf r.keys ps)
those-after r w ps ok within h = record {
  word = h.word;
  locals = map-same (λ p. value r.shelf (slice_index r.keys p)) (local_after r.dfa w) ps (λ p m. local-is r w p ok.keys_size (within p m) h);
}

pub participants-after : (r : Records) (w : List ℕ) (a : ℕ) (ps : List ℕ) → ps ≡ loc_of r.dfa.alphabet a → AreRecords r → {m : ℕ} →
    length r.dfa.alphabet.letters ≡ m → a < m → AreAllLocalsAfter r.dfa w (locals_of r) →
    AreLocalsAfter r.dfa w (loc_of r.dfa.alphabet a) (values_at r.shelf r.keys ps)
participants-after r w a ps same ok e l h =
    subst (λ xs. AreLocalsAfter r.dfa w xs (values_at r.shelf r.keys ps)) same
    (those-after r w ps ok (λ p m. ok.complete.distributed.located.below a p (omega arith) (subst (λ xs. has xs p ≡ true) same m)) h)

-- the transition of the participants' local states is for this automaton
pub made-shape : (r : Records) → AreRecords r → (a : ℕ) → a < length r.dfa.alphabet.letters → AreOfAWord r → (made : LocalState) →
    IsTransition r.dfa a (values_at r.shelf r.keys (loc_of r.dfa.alphabet a)) made → HasShape r.dfa.alphabet.processes r.dfa.states made
made-shape r ok a la word made h =
    let x = ok.complete.distributed.located.some a la in
    subst (HasShape r.dfa.alphabet.processes r.dfa.states)
    (sym (h word.0 (participants-after r word.0 a (loc_of r.dfa.alphabet a) refl ok refl la word.1) x.0 x.1)) (shape-after r.dfa (word.0 ++ a ∷ []) x.0)
