-- A local state that was adopted, and whose line was kept.
use Rattle.std.proofs.Common.{◌≡◌, ℕ, ◌<◌, ◌==◌, true, List, [], ◌∷◌, map, refl, sym, ap, subst, ◌∙◌, arith, eq-eqb}
use Rattle.std.specs.Prelude.{count_by}
use Rattle.std.proofs.lemmas.Bool.{cond-true}
use Rattle.za_alpha.specs.Words.{has}
use Rattle.za_alpha.specs.Alphabet.{loc_of}
use Rattle.za_local.specs.Locals.{AreLocalsAfter}
use Rattle.za_records.specs.Shelf.{count}
use Rattle.za_shared.specs.Holders.{value}
use Rattle.za_shared.specs.Records.{Records, AreRecords, IsTransition, IsRemembered}
use Rattle.za_shared.specs.Private.Steps.{HasAdopted, HasEntered, last_of}
use Rattle.za_shared.proofs.Carrying.{count-more, map-same}

module _ (s t : Records) (a : ℕ) (inputs : List ℕ) (second : HasAdopted s t) where
  pub adopted-live : ((k : ℕ) → has inputs k ≡ true → 0 < count s.shelf k) → (k : ℕ) → has inputs k ≡ true → 0 < count t.shelf k
  adopted-live live k h = (second.values k (live k h)).0

  pub adopted-transition : ((k : ℕ) → has inputs k ≡ true → 0 < count s.shelf k) → IsTransition s.dfa a (map (value s.shelf) inputs) (last_of s.spares) →
      IsTransition t.dfa a (map (value t.shelf) inputs) (value t.shelf second.key)
  adopted-transition live made =
      let same = map-same (value t.shelf) (value s.shelf) inputs (λ k h. (second.values k (live k h)).1) in
      subst (λ (x : Records). IsTransition x.dfa a (map (value t.shelf) inputs) (value t.shelf second.key)) (sym second.rest)
      (λ w h x p. second.is ∙ made w (subst (AreLocalsAfter s.dfa w (loc_of s.dfa.alphabet a)) same h) x p)

  pub adopted-entered : (u : Records) → u ≡ record t { shelf = u.shelf; lines = u.lines; spares = u.spares } → AreRecords u →
      ((k : ℕ) → 0 < count u.shelf k → value u.shelf k ≡ value t.shelf k) → IsRemembered t.cache t.lines u.lines a inputs second.key → HasEntered s u a inputs
  adopted-entered u third done values lines =
      let whole : u ≡ record s { shelf = u.shelf; own = t.own; lines = u.lines; spares = u.spares } =
      third ∙ ap (λ (x : Records). record x { shelf = u.shelf; lines = u.lines; spares = u.spares }) second.rest in
      let own : u.own ≡ second.key ∷ [] = ap (λ (x : Records). x.own) whole ∙ second.own in
      record {
        key = second.key;
        own = own;
        rest = whole ∙ ap (λ (o : List ℕ). record s { shelf = u.shelf; own = o; lines = u.lines; spares = u.spares }) (sym (ap (λ (x : Records). x.own) whole));
        is =
            values second.key (
            let c = done.counts second.key in
            let b = ap (count_by (λ (y : ℕ). y == second.key)) own in
            let e = count-more (λ (y : ℕ). y == second.key) second.key [] in
            let o = cond-true {A = ℕ} (second.key == second.key) 1 0 (eq-eqb second.key second.key refl) in omega arith)
            ∙ second.is;
        values = λ k o n. values k n ∙ (second.values k o).1;
        lines = subst (λ (x : Records). IsRemembered x.cache x.lines u.lines a inputs second.key) second.rest lines;
      }
