-- A line that was kept, and one that rows hand back.
use Rattle.std.proofs.Common.{◌≡◌, ℕ, ◌+◌, ◌<◌, ◌≤◌, true, cond, List, [], ◌∷◌, length, sym, ap, subst, ◌∙◌, arith, inl, inr, length-append}
use Rattle.std.specs.Prelude.{count_by}
use Rattle.std.specs.List.{All}
use Rattle.std.proofs.lemmas.Bool.{cases_Bool, cond-false}
use Rattle.std.proofs.lemmas.List.Elements.{All-cons}
use Rattle.std.proofs.lemmas.List.Sums.{sum_by_push}
use Rattle.za_local.specs.Locals.{LocalState, HasShape}
use Rattle.za_records.specs.Shelf.{Shelf, count}
use Rattle.za_cache.specs.Lines.{Lines, LineKey, HasKept, bare_line}
use Rattle.za_cache.specs.declared.rows.Kept.{Kept}
use Rattle.za_cache.specs.declared.rows.Kept.TheVariants.{Stored, Replaced, Refused}
use Rattle.za_shared.specs.Holders.{is_named}
use Rattle.za_shared.specs.Records.{Records, AreRecords, IsLine}
use Rattle.za_shared.specs.Private.Steps.{named_by_line, named_by, HaveMore, HaveFewer}
use Rattle.za_shared.proofs.Carrying.{carried, names, count-more}
use Rattle.za_shared.proofs.LineLists.{all-begin}

-- how often the lines name a key, before and after
pub kept-counts : (old new : Lines) (line : LineKey × ℕ) (kept : Kept) → HasKept old new line kept → (k : ℕ) →
    count_by (names k) new.lines + named_by kept k ≡ count_by (names k) old.lines + named_by_line line.0.inputs line.1 k
kept-counts old new line Stored h k = let a = ap (λ (l : Lines). count_by (names k) l.lines) h.1 in let b = count-more (names k) line old.lines in omega arith
kept-counts old new line (Replaced last) h k =
    let m = h.1 in
    let a = ap (λ (l : Lines). count_by (names k) l.lines) m.2 in
    let b = count-more (names k) line m.0 in
    let c = ap (count_by (names k)) m.1 in
    let d = sum_by_push (λ (l : LineKey × ℕ). cond {A = ℕ} (names k l) 1 0) m.0 (bare_line last) in omega arith
kept-counts old new line (Refused given) h k =
    let a = ap (λ (l : Lines). count_by (names k) l.lines) h.0 in
    let b = ap (λ (l : LineKey × ℕ). named_by_line l.0.inputs l.1 k) h.1 in omega arith

pub kept-few : (old new : Lines) (line : LineKey × ℕ) (kept : Kept) → HasKept old new line kept → length old.lines ≤ old.capacity →
    (length new.lines ≤ old.capacity) × (new.capacity ≡ old.capacity)
kept-few old new line Stored h l = (let a = ap (λ (l : Lines). length l.lines) h.1 in let b = h.0 in omega arith, ap (λ (l : Lines). l.capacity) h.1)
kept-few old new line (Replaced last) h l =
    let m = h.1 in (
      let a = ap (λ (l : Lines). length l.lines) m.2 in let c = ap length m.1 in let e = length-append m.0 (bare_line last ∷ []) in
          omega arith,
      ap (λ (l : Lines). l.capacity) m.2,
    )
kept-few old new line (Refused given) h l = (let a = ap (λ (l : Lines). length l.lines) h.0 in omega arith, ap (λ (l : Lines). l.capacity) h.0)

pub kept-all : (P : LineKey × ℕ → Type 0) (old new : Lines) (line : LineKey × ℕ) (kept : Kept) → HasKept old new line kept → P line → All P old.lines →
    All P new.lines
kept-all P old new line Stored h p all = subst (λ (l : Lines). All P l.lines) (sym h.1) (All-cons P line old.lines p all)
kept-all P old new line (Replaced last) h p all =
    let m = h.1 in subst (λ (l : Lines). All P l.lines) (sym m.2) (All-cons P line m.0 p (all-begin P m.0 (bare_line last ∷ []) (subst (All P) m.1 all)))
kept-all P old new line (Refused given) h p all = subst (λ (l : Lines). All P l.lines) (sym h.0) all

named-one : (inputs : List ℕ) (output k : ℕ) → 0 < named_by_line inputs output k → is_named inputs output k ≡ true
named-one inputs output k h = elim (cases_Bool (is_named inputs output k)) [
  | inl t ↦ t
  | inr f ↦ absurd (let o = cond-false {A = ℕ} (is_named inputs output k) 1 0 f in omega arith)
]

module _ (r : Records) (ok : AreRecords r) (s t : Shelf LocalState) (spares : List LocalState) (line : LineKey × ℕ) (old new : Lines) (kept : Kept)
    (rows : r.lines ≡ old.lines) (cache : r.cache ≡ old.capacity) (more : HaveMore r.shelf s (named_by_line line.0.inputs line.1))
    (h : HasKept old new line kept)
    (live : (k : ℕ) → is_named line.0.inputs line.1 k ≡ true → 0 < count r.shelf k) where
  pub kept-live : (k : ℕ) → 0 < named_by kept k → 0 < count s k
  kept-live k n =
      let a = more.counts k in
      let b = ok.counts k in
      let c = kept-counts old new line kept h k in
      let d = ap (count_by (names k)) rows in omega arith

  before : (k : ℕ) → 0 < count s k → 0 < count r.shelf k
  before k n = elim (cases_Bool (is_named line.0.inputs line.1 k)) [
    | inl y ↦ live k y
    | inr f ↦ let a = more.counts k in let o = cond-false {A = ℕ} (is_named line.0.inputs line.1 k) 1 0 f in omega arith
  ]

  -- what is live then was live before
  pub remembered-old : HaveFewer s t r.spares spares (named_by kept) → (k : ℕ) → 0 < count t k → 0 < count r.shelf k
  remembered-old fewer k n = before k (let e = fewer.counts k in omega arith)

  pub remembered : HaveFewer s t r.spares spares (named_by kept) → IsLine r.dfa r.shelf line →
      AreRecords (record r { cache = new.capacity; shelf = t; lines = new.lines; spares = spares })
  remembered fewer is =
      let few = kept-few old new line kept h (let a = ok.lines_few in let b = ap length rows in omega arith) in
      carried r t r.own r.keys new.lines spares ok
      (λ k.
      let a = more.counts k in
      let b = ok.counts k in
      let c = kept-counts old new line kept h k in
      let d = ap (count_by (names k)) rows in
      let e = fewer.counts k in omega arith)
      (λ k n. before k (let e = fewer.counts k in omega arith)) (λ k n. fewer.values k n ∙ more.values k)
      new.capacity (few.1 ∙ sym cache) ok.keys_size ok.own_few
      (fewer.shaped r.dfa.alphabet.processes r.dfa.states
      (λ k n. subst (HasShape r.dfa.alphabet.processes r.dfa.states) (sym (more.values k)) (ok.shaped k (before k n))) ok.spares_shaped)
      (let a = more.live in let b = fewer.whole in omega arith) (fewer.capacity ∙ more.capacity) (let f = few.0 in omega arith)
      (kept-all (IsLine r.dfa r.shelf) old new line kept h is (subst (All (IsLine r.dfa r.shelf)) rows ok.lines))
