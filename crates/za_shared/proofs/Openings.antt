-- Records before any event.
use Rattle.std.proofs.Common.{◌≡◌, ℕ, zero, suc, ◌+◌, ◌^◌, ◌<◌, ◌==◌, List, [], ◌∷◌, length, map, replicate, Option, Some, None, get_or, refl, sym, ap, subst}
use Rattle.std.proofs.Common.{◌∙◌, arith, inl, inr, eq-eqb}
use Rattle.std.specs.Prelude.{count_by, is_some}
use Rattle.std.specs.List.{All}
use Rattle.std.proofs.lemmas.Option.{slice_get-get_or, slice_get_within}
use Rattle.std.proofs.lemmas.Bool.{cases_eq, cond-true}
use Rattle.std.proofs.lemmas.List.{length-replicate, length-map, get_or-map, get_or-replicate}
use Rattle.std.proofs.lemmas.List.Elements.{All-nil}
use Rattle.za_dfa.specs.Tables.{CompleteDfa, IsComplete}
use Rattle.za_local.specs.Locals.{LocalState, local_after, HasShape}
use Rattle.za_local.proofs.Given.{locals-by-each}
use Rattle.za_local.proofs.Shapes.{shape-after}
use Rattle.za_records.specs.Shelf.{Shelf, count, count_of, live, Changes}
use Rattle.za_records.specs.declared.shelf.Counted.{Counted}
use Rattle.za_shared.specs.Holders.{no_local, value, held_value}
use Rattle.za_shared.specs.Records.{AreRecords, AreOpened, IsLine, bound}
use Rattle.za_shared.specs.Marks.{mark, AreMarked}
use Rattle.za_shared.specs.Private.Steps.{one}
use Rattle.za_shared.proofs.Shelves.{one-other}
use Rattle.za_shared.proofs.Carrying.{count-more}

empty-slots : (xs : List (Option (Counted LocalState))) → count_by is_some xs ≡ 0 → (k : ℕ) → get_or xs k None ≡ None
empty-slots [] h k = refl
empty-slots (None ∷ xs) h zero = refl
empty-slots (None ∷ xs) h (suc k) = empty-slots xs (let e = count-more {X = Option (Counted LocalState)} is_some None xs in omega arith) k
empty-slots (Some c ∷ xs) h k = absurd (let e = count-more {X = Option (Counted LocalState)} is_some (Some c) xs in omega arith)

count-same : (n key : ℕ) → count_by (λ x. x == key) (replicate n key) ≡ n
count-same zero key = refl
count-same (suc n) key = let e = count-more (λ (x : ℕ). x == key) key (replicate n key) in let o = cond-true {A = ℕ} (key == key) 1 0 (eq-eqb key key refl) in
    let h = count-same n key in omega arith

count-other : (n key k : ℕ) → one key k ≡ 0 → count_by (λ x. x == k) (replicate n key) ≡ 0
count-other zero key k h = refl
count-other (suc n) key k h = let e = count-more (λ (x : ℕ). x == k) key (replicate n key) in let i = count-other n key k h in omega arith

module _ (d : CompleteDfa) (ok : IsComplete d) (cache : ℕ) (few : cache < 2 ^ 8) (r s : Shelf LocalState) (key : ℕ) (v : LocalState)
    (opening : (p : ℕ) → v ≡ local_after d [] p) (keys : List ℕ) (spares : List LocalState)
    (none : live r ≡ 0) (ch : Changes r s key (Some (record { value = v; count = d.alphabet.processes }))) (l : live s ≡ live r + 1)
    (cap : r.capacity ≡ bound d.alphabet.processes cache)
    (each : keys ≡ replicate d.alphabet.processes key) (rest : length spares + 1 ≡ bound d.alphabet.processes cache)
    (shaped : All (HasShape d.alphabet.processes d.states) spares) where
  here : value s key ≡ v
  here = ap held_value ch.here

  only : (k : ℕ) → 0 < count s k → k ≡ key
  only k h = elim (cases_eq k key) [
    | inl e ↦ e
    | inr n ↦ absurd (let a = ap count_of (ch.others k n) in let b = ap count_of (empty-slots r.slots none k) in omega arith)
  ]

  opened : (rows : ℕ) → rows ≡ cache → AreRecords (record { dfa = d; cache = rows; shelf = s; own = []; keys = keys; lines = []; spares = spares })
  opened rows e = record {
    complete = ok;
    keys_size = ap length each ∙ length-replicate d.alphabet.processes key;
    own_few = omega arith;
    counts = λ k.
        let q = ap (count_by (λ (x : ℕ). x == k)) each in
        let z : count_by (λ (x : ℕ). x == k) [] ≡ 0 = refl in
        let y : count_by {X = Rattle.za_cache.specs.Lines.LineKey × ℕ} (λ l. Rattle.za_shared.specs.Holders.is_named l.0.inputs l.1 k) [] ≡ 0 = refl in
        elim (cases_eq k key) [
          | inl is ↦
              let a = ap (count s) is in
              let b = ap count_of ch.here in
              let c = count-same d.alphabet.processes key in
              let f = ap (λ (i : ℕ). count_by (λ (x : ℕ). x == i) (replicate d.alphabet.processes key)) is in omega arith
          | inr n ↦
              let a = ap count_of (ch.others k n) in
              let b = ap count_of (empty-slots r.slots none k) in
              let c = count-other d.alphabet.processes key k (one-other key k (λ (w : key ≡ k). n (sym w))) in omega arith
        ];
    apart = λ j k a b same. only j a ∙ sym (only k b);
    shaped = λ k h. subst (HasShape d.alphabet.processes d.states) (sym (ap (value s) (only k h) ∙ here ∙ opening 0)) (shape-after d [] 0);
    spares_shaped = shaped;
    whole = let f = rest in let b = ap (bound d.alphabet.processes) e in let m = l in let n = none in omega arith;
    capacity = ch.capacity ∙ cap ∙ ap (bound d.alphabet.processes) (sym e);
    lines_few = omega arith;
    cache_few = let f = few in omega arith;
    lines = All-nil (IsLine d s);
  }

  pub opened-all : (rows : ℕ) → rows ≡ cache →
      AreOpened d cache (record { dfa = d; cache = rows; shelf = s; own = []; keys = keys; lines = []; spares = spares })
  opened-all rows e = record {
    dfa = refl;
    cache_is = e;
    free = refl;
    records = opened rows e;
    locals =
        let size : length keys ≡ d.alphabet.processes = ap length each ∙ length-replicate d.alphabet.processes key in
        locals-by-each d [] (map (value s) keys) (All-nil (λ a. a < length d.alphabet.letters)) (length-map keys (value s) ∙ size) no_local
        (λ p m. get_or-map (value s) keys p 0 no_local (let z = size in omega arith) ∙ ap (λ (ks : List ℕ). value s (get_or ks p 0)) each
        ∙ ap (value s) (get_or-replicate d.alphabet.processes p key 0 m) ∙ here ∙ opening p);
  }

  -- all marks are that of the opening local state
  pub opened-marks : (m n : ℕ) → m ≡ mark v → AreMarked s (replicate n m)
  opened-marks m n e = λ k got some is.
      let l = slice_get_within (replicate n m) k got is in
      let size = length-replicate n m in
      let a = slice_get-get_or (replicate n m) k 0 l in
      let b = get_or-replicate n k m 0 (omega arith) in
      let q : Some got ≡ Some m = sym is ∙ a ∙ ap Some b in
      let same : got ≡ m = cc in
      same ∙ e ∙ ap mark (sym here ∙ ap (value s) (sym (only k some)))
