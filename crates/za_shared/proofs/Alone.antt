-- A firing whose participants let go of their records first.
use Rattle.std.proofs.Common.{◌≡◌, ◌≢◌, ℕ, ◌+◌, ◌<◌, ◌≤◌, ◌==◌, ◌&&◌, Bool, true, false, cond, nat_lt, List, [], ◌∷◌, ◌++◌, length, map, slice_index, refl}
use Rattle.std.proofs.Common.{sym, ap, subst}
use Rattle.std.proofs.Common.{◌∙◌, arith, inl, inr, IsTrue}
use Rattle.std.specs.Prelude.{count_by}
use Rattle.std.specs.List.{All}
use Rattle.std.proofs.lemmas.Bool.{cases_Bool, cond-true, cond-false, lt-ltb}
use Rattle.std.proofs.lemmas.List.{get_or-map, length-map}
use Rattle.za_alpha.specs.declared.procs.Procs.{Procs}
use Rattle.za_alpha.specs.Words.{has}
use Rattle.za_alpha.specs.Procs.{members}
use Rattle.za_alpha.specs.Alphabet.{loc_of}
use Rattle.za_order.proofs.NextLetter.{word-next}
use Rattle.za_dfa.specs.Tables.{automaton_of}
use Rattle.za_local.specs.Locals.{LocalState, HasShape, local_after, AreAllLocalsAfter}
use Rattle.za_local.proofs.Given.{locals-by-each}
use Rattle.za_local.proofs.LocalLaws.{others_keep_locals}
use Rattle.za_records.specs.Shelf.{Shelf, count}
use Rattle.za_shared.specs.Holders.{no_local, value, values_at, holders}
use Rattle.za_shared.specs.Records.{Records, AreRecords, IsTransition, HasFired, locals_of}
use Rattle.za_shared.specs.Private.Steps.{held_by, HaveFewer, HasShelved, HaveTurned}
use Rattle.za_shared.proofs.Carrying.{lines-moved}
use Rattle.za_shared.proofs.Holding.{held-all, held-less}
use Rattle.za_shared.proofs.Locals.{local-is, participants-after}
use Rattle.za_shared.proofs.LineLists.{all-begin}
use Rattle.za_shared.proofs.Shelving.{apart-more, shaped-more}

and-off : (b : Bool) → (b && false) ≡ false
and-off true = refl
and-off false = refl

-- records r, the call holds none; one spare record is taken; the participants let go of their keys; the made local state gets a key; the
-- participants have that
module _ (r : Records) (ok : AreRecords r) (free : r.own ≡ []) (s t : Shelf LocalState) (x y z : List LocalState) (taken made : LocalState) (ps : Procs)
    (keys : List ℕ) (key more : ℕ) (split : r.spares ≡ x ++ taken ∷ []) (within : (p : ℕ) → has (members ps) p ≡ true → p < length r.keys)
    (fewer : HaveFewer r.shelf s x y (held_by r.keys (members ps))) (shelved : HasShelved s t y z made more key)
    (turned : HaveTurned r.keys keys (members ps) key) (all : more ≡ length (members ps)) where
  few : length r.keys ≤ 16
  few = let n = ok.complete.distributed.few_processes in let e = ok.keys_size in omega arith

  counted : (k : ℕ) → count t k ≡ holders r.own keys r.lines k
  counted k =
      let a = fewer.counts k in
      let b = shelved.counts k in
      let d = turned.counts k in
      let e = ok.counts k in
      let f = ap (count_by (λ (n : ℕ). n == k)) free in
      let g : count_by (λ (n : ℕ). n == k) [] ≡ 0 = refl in
      let h = ap (λ (n : ℕ). cond (key == k) n 0) all in
      let i = held-all r.keys ps k few within in omega arith

  was : (k : ℕ) → 0 < count s k → 0 < count r.shelf k
  was k h = let a = fewer.counts k in omega arith

  same : (k : ℕ) → 0 < count s k → value t k ≡ value r.shelf k
  same k h = shelved.values k h ∙ fewer.values k h

  module _ (shape : HasShape r.dfa.alphabet.processes r.dfa.states made) where
    pub alone-records : AreRecords (record r { shelf = t; keys = keys; spares = z })
    alone-records = record {
      complete = ok.complete;
      keys_size = turned.size ∙ ok.keys_size;
      own_few = ok.own_few;
      counts = counted;
      apart = apart-more s t y z made more key shelved
          (λ i k a b e. ok.apart i k (was i a) (was k b) (sym (fewer.values i a) ∙ e ∙ fewer.values k b));
      shaped = shaped-more s t y z made more key shelved r.dfa.alphabet.processes r.dfa.states shape
          (λ k h. subst (HasShape r.dfa.alphabet.processes r.dfa.states) (sym (fewer.values k h)) (ok.shaped k (was k h)));
      spares_shaped = shelved.shaped r.dfa.alphabet.processes r.dfa.states shape
          (fewer.shaped r.dfa.alphabet.processes r.dfa.states ok.shaped
          (all-begin (HasShape r.dfa.alphabet.processes r.dfa.states) x (taken ∷ [])
          (subst (All (HasShape r.dfa.alphabet.processes r.dfa.states)) split ok.spares_shaped)));
      whole =
          let a = ok.whole in
          let b = fewer.whole in
          let c = shelved.whole in
          let e = ap length split in
          let f = Rattle.std.proofs.Common.length-append x (taken ∷ []) in omega arith;
      capacity = shelved.capacity ∙ fewer.capacity ∙ ok.capacity;
      lines_few = ok.lines_few;
      cache_few = ok.cache_few;
      lines = lines-moved r.dfa r.shelf t r.lines (λ k m. same k
          (let a = fewer.counts k in let e = ok.counts k in let i = held-all r.keys ps k few within in omega arith)) ok.lines;
    }

    -- the letter has fired
    module _ (a : ℕ) (la : a < length r.dfa.alphabet.letters) (are : members ps ≡ loc_of r.dfa.alphabet a) (none : r.cache ≡ 0)
        (transition : IsTransition r.dfa a (values_at r.shelf r.keys (members ps)) made) where
      mine : (p : ℕ) → has (loc_of r.dfa.alphabet a) p ≡ true → slice_index keys p ≡ key
      mine p h =
          let m = subst (λ (xs : List ℕ). has xs p ≡ true) (sym are) h in
          turned.keys p ∙ cond-true (nat_lt p (length r.keys) && has (members ps) p) key (slice_index r.keys p)
          (ap (λ b. b && has (members ps) p) (lt-ltb p (length r.keys) (within p m)) ∙ m)

      others : (p : ℕ) → has (loc_of r.dfa.alphabet a) p ≡ false → slice_index keys p ≡ slice_index r.keys p
      others p h =
          turned.keys p ∙ cond-false (nat_lt p (length r.keys) && has (members ps) p) key (slice_index r.keys p)
          (ap (λ b. nat_lt p (length r.keys) && b) (subst (λ (xs : List ℕ). has xs p ≡ false) (sym are) h) ∙ and-off (nat_lt p (length r.keys)))

      module _ (w : List ℕ) (h : AreAllLocalsAfter r.dfa w (locals_of r)) (p : ℕ) (l : p < r.dfa.alphabet.processes) where
        -- another process holds its record still
        stays : has (loc_of r.dfa.alphabet a) p ≡ false → 0 < count s (slice_index r.keys p)
        stays n =
            let k = slice_index r.keys p in
            let size = ok.keys_size in
            let b = fewer.counts k in
            let e = ok.counts k in
            let i = held-less r.keys ps k few within p (omega arith) (subst (λ (xs : List ℕ). has xs p ≡ false) (sym are) n) refl in omega arith

        each : value t (slice_index keys p) ≡ local_after r.dfa (w ++ a ∷ []) p
        each = elim (cases_Bool (has (loc_of r.dfa.alphabet a) p)) [
          | inl m ↦ ap (value t) (mine p m) ∙ shelved.is ∙ transition w (participants-after r w a (members ps) are ok refl la h) p m
          | inr n ↦
              ap (value t) (others p n) ∙ same (slice_index r.keys p) (stays n) ∙ local-is r w p ok.keys_size l h
              ∙ sym (others_keep_locals (loc_of r.dfa.alphabet) r.dfa.alphabet.processes (automaton_of r.dfa) w a p ok.complete.distributed.located h.word la n)
        ]

      pub alone-fired : HasFired r (record r { shelf = t; keys = keys; spares = z }) a
      alone-fired = record {
        free = free;
        dfa = refl;
        cache = refl;
        locals = λ w h. locals-by-each r.dfa (w ++ a ∷ []) (map (value t) keys) (word-next (length r.dfa.alphabet.letters) w a h.word la)
            (length-map keys (value t) ∙ turned.size ∙ ok.keys_size) no_local
            (λ p l. get_or-map (value t) keys p 0 no_local (let e = ok.keys_size in let f = turned.size in omega arith) ∙ each w h p l);
        key = key;
        participants = mine;
        others = others;
        lines = λ c. absurd (let e = none in omega arith);
      }
