-- A firing by a line: the line names the records of the participants, so all of them stay.
use Rattle.std.proofs.Common.{◌≡◌, ℕ, ◌<◌, ◌≤◌, ◌==◌, true, cond, List, [], ◌∷◌, Some, length, map, slice_index, refl, sym, ap, subst, ◌∙◌, arith, inl, inr}
use Rattle.std.proofs.Common.{eqb-true}
use Rattle.std.specs.Prelude.{count_by}
use Rattle.std.specs.List.{All}
use Rattle.std.specs.Map.{lookup}
use Rattle.std.proofs.lemmas.Bool.{cases_Bool, cond-false}
use Rattle.std.proofs.lemmas.List.{length-map}
use Rattle.lru.specs.LruCache.{promoted}
use Rattle.za_alpha.specs.declared.procs.Procs.{Procs}
use Rattle.za_alpha.specs.Words.{has}
use Rattle.za_alpha.specs.Procs.{members}
use Rattle.za_alpha.specs.Alphabet.{loc_of}
use Rattle.za_local.specs.Locals.{LocalState}
use Rattle.za_local.proofs.Inputs.{few-participants}
use Rattle.za_records.specs.Shelf.{Shelf, count}
use Rattle.za_cache.specs.Lines.{LineKey, is_key}
use Rattle.za_shared.specs.Holders.{value, holders}
use Rattle.za_shared.specs.Records.{Records, AreRecords, IsLine, HasFired}
use Rattle.za_shared.specs.Private.Steps.{held_by, key_given, HaveMore, HaveTurned}
use Rattle.za_shared.proofs.Carrying.{carried, count-more, names}
use Rattle.za_shared.proofs.Firing.{line-obtained, fired}
use Rattle.za_shared.proofs.Holding.{held-all}
use Rattle.za_shared.proofs.LineLists.{split-found, count-promoted, length-promoted, all-promoted}
use Rattle.za_shared.proofs.Steps.{inputs-named, line-live}

count-mapped : (f : ℕ → ℕ) (ps : List ℕ) (k : ℕ) → count_by (λ x. x == k) (map f ps) ≡ count_by (λ p. f p == k) ps
count-mapped f [] k = refl
count-mapped f (p ∷ ps) k =
    let a = count-more (λ (x : ℕ). x == k) (f p) (map f ps) in
    let b = count-more (λ (q : ℕ). f q == k) p ps in
    let c = count-mapped f ps k in omega arith

module _ (r : Records) (ok : AreRecords r) (a : ℕ) (la : a < length r.dfa.alphabet.letters) (ps : Procs) (are : members ps ≡ loc_of r.dfa.alphabet a)
    (inputs : List ℕ) (is : inputs ≡ map (λ p. slice_index r.keys p) (members ps)) where
  pub within : (p : ℕ) → has (members ps) p ≡ true → p < length r.keys
  within p h =
      let l = ok.complete.distributed.located.below a p la (subst (λ (xs : List ℕ). has xs p ≡ true) are h) in
      let e = ok.keys_size in omega arith

  few : length r.keys ≤ 16
  few = let n = ok.complete.distributed.few_processes in let e = ok.keys_size in omega arith

  of-participants : (k : ℕ) → count_by (λ x. x == k) inputs ≡ held_by r.keys (members ps) k
  of-participants k = ap (count_by (λ (x : ℕ). x == k)) is ∙ count-mapped (λ p. slice_index r.keys p) (members ps) k

  size : length inputs ≡ length (members ps)
  size = ap length is ∙ length-map (members ps) (λ p. slice_index r.keys p)

  pub few-inputs : length inputs ≤ r.dfa.alphabet.processes
  few-inputs =
      let e = size in
      let f = ap length are in
      let g = few-participants r.dfa.alphabet ok.complete.distributed a la in omega arith

  module _ (free : r.own ≡ []) (key : ℕ) (found : lookup (is_key a inputs) r.lines ≡ Some key) where
    -- the line is a holder beside the participants
    pub shared : (k : ℕ) → has inputs k ≡ true → count_by (λ x. x == k) inputs < count r.shelf k
    shared k h =
        let b = of-participants k in
        let c = held-all r.keys ps k few within in
        let d = inputs-named a inputs r.lines key found k h in
        let e = ok.counts k in omega arith

    pub live : 0 < count r.shelf key
    live = line-live r ok (is_key a inputs) key found

    module _ (s t : Shelf LocalState) (keys : List ℕ) (lines : List (LineKey × ℕ)) (more : HaveMore r.shelf s (λ k. cond (key == k) (length inputs) 0))
        (fewer : HaveMore t s (λ k. count_by (λ x. x == k) inputs)) (turned : HaveTurned r.keys keys (members ps) key)
        (same : lines ≡ promoted (is_key a inputs) r.lines) where
      abbrev pub after : Records
      after = record r { shelf = t; keys = keys; lines = lines }

      pub values : (k : ℕ) → value t k ≡ value r.shelf k
      values k = sym (fewer.values k) ∙ more.values k

      counted : (k : ℕ) → count t k ≡ holders r.own keys lines k
      counted k =
          let s0 = split-found (is_key a inputs) r.lines key found in
          let b = more.counts k in
          let c = fewer.counts k in
          let d = ok.counts k in
          let e = turned.counts k in
          let f = of-participants k in
          let g = ap (λ (n : ℕ). cond (key == k) n 0) size in
          let h = ap (count_by (names k)) same ∙ count-promoted (is_key a inputs) (names k) r.lines s0.0 in omega arith

      pub old : (k : ℕ) → 0 < count t k → 0 < count r.shelf k
      old k h = elim (cases_Bool (key == k)) [
        | inl e ↦ subst (λ (i : ℕ). 0 < count r.shelf i) (eqb-true key k e) live
        | inr n ↦
            let b = more.counts k in
            let c = fewer.counts k in
            let z = cond-false {A = ℕ} (key == k) (length inputs) 0 n in omega arith
      ]

      pub again-records : AreRecords after
      again-records =
          let s0 = split-found (is_key a inputs) r.lines key found in
          carried r t r.own keys lines r.spares ok counted old (λ k h. values k) r.cache refl (turned.size ∙ ok.keys_size) ok.own_few ok.spares_shaped
          (let b = more.live in let c = fewer.live in omega arith) (sym fewer.capacity ∙ more.capacity)
          (let b = ap length same in let c = length-promoted (is_key a inputs) r.lines s0.0 in let d = ok.lines_few in omega arith)
          (subst (All (IsLine r.dfa r.shelf)) (sym same) (all-promoted (is_key a inputs) (IsLine r.dfa r.shelf) r.lines s0.0 ok.lines))

      pub again-fired : HasFired r after a
      again-fired =
          let here : inputs ≡ map (λ p. slice_index r.keys p) (loc_of r.dfa.alphabet a) = is ∙ ap (map (λ p. slice_index r.keys p)) are in
          let s1 : Records = record r { own = key ∷ []; lines = lines } in
          fired r ok a la s1 after key
          (line-obtained r ok a la s1 key (ap (λ (i : List ℕ). lookup (is_key a i) r.lines) (sym here) ∙ found) refl
          (ap (λ (ls : List (LineKey × ℕ)). record r { own = key ∷ []; lines = ls }) (same ∙ ap (λ (i : List ℕ). promoted (is_key a i) r.lines) here)))
          refl (ap (λ (o : List ℕ). record after { own = o }) free) again-records
          (λ p. turned.keys p ∙ ap (λ (xs : List ℕ). key_given xs key (length r.keys) r.keys p) are)
          (λ k h. (old k h, values k))
