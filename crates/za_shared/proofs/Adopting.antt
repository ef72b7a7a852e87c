-- A spare record that becomes live, or an equal one that is.
use Rattle.std.proofs.Common.{◌≡◌, ℕ, ◌<◌, ◌==◌, List, [], ◌∷◌, ◌++◌, length, refl, sym, ap, subst, ◌∙◌, arith, length-append}
use Rattle.std.specs.Prelude.{count_by}
use Rattle.std.specs.List.{All}
use Rattle.za_local.specs.Locals.{LocalState, HasShape}
use Rattle.za_records.specs.Shelf.{Shelf, count}
use Rattle.za_shared.specs.Records.{Records, AreRecords}
use Rattle.za_shared.specs.Private.Steps.{HasShelved, HasAdopted}
use Rattle.za_shared.proofs.Carrying.{count-one, lines-moved}
use Rattle.za_shared.proofs.LineLists.{all-begin, all-last}
use Rattle.za_shared.proofs.Shelving.{apart-more, shaped-more}
use Rattle.za_shared.proofs.Vectors.{last-split}
use Rattle.za_shared.specs.Holders.{no_local}

module _ (r : Records) (ok : AreRecords r) (free : r.own ≡ []) (t : Shelf LocalState) (x z : List LocalState) (made : LocalState) (key : ℕ)
    (split : r.spares ≡ x ++ made ∷ []) (shelved : HasShelved r.shelf t x z made 1 key) where
  spares : All (HasShape r.dfa.alphabet.processes r.dfa.states) (x ++ made ∷ [])
  spares = subst (All (HasShape r.dfa.alphabet.processes r.dfa.states)) split ok.spares_shaped

  shape : HasShape r.dfa.alphabet.processes r.dfa.states made
  shape = all-last (HasShape r.dfa.alphabet.processes r.dfa.states) x made spares

  live : (k : ℕ) → 0 < count r.shelf k → 0 < count t k
  live k h = let a = shelved.counts k in omega arith

  pub adopted-records : AreRecords (record r { shelf = t; own = key ∷ []; spares = z })
  adopted-records = record {
    complete = ok.complete;
    keys_size = ok.keys_size;
    own_few = omega arith;
    counts = λ k.
        let a = shelved.counts k in
        let b = ok.counts k in
        let d = ap (count_by (λ (n : ℕ). n == k)) free in
        let e : count_by (λ (n : ℕ). n == k) [] ≡ 0 = refl in
        let f = count-one key k in omega arith;
    apart = apart-more r.shelf t x z made 1 key shelved ok.apart;
    shaped = shaped-more r.shelf t x z made 1 key shelved r.dfa.alphabet.processes r.dfa.states shape ok.shaped;
    spares_shaped = shelved.shaped r.dfa.alphabet.processes r.dfa.states shape
        (all-begin (HasShape r.dfa.alphabet.processes r.dfa.states) x (made ∷ []) spares);
    whole = let a = ok.whole in let b = shelved.whole in let e = ap length split in let f = length-append x (made ∷ []) in omega arith;
    capacity = shelved.capacity ∙ ok.capacity;
    lines_few = ok.lines_few;
    cache_few = ok.cache_few;
    lines = lines-moved r.dfa r.shelf t r.lines (λ k m. shelved.values k (let e = ok.counts k in omega arith)) ok.lines;
  }

  pub adopted : HasAdopted r (record r { shelf = t; own = key ∷ []; spares = z })
  adopted = record {
    key = key;
    own = refl;
    rest = refl;
    is = shelved.is ∙ sym (last-split no_local r.spares x made split);
    values = λ k h. (live k h, shelved.values k h);
  }
