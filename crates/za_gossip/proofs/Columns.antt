-- Tertiary entries for a process are events of it.
use Rattle.std.proofs.Common.{◌≡◌, ℕ, ◌+◌, ◌*◌, ◌/◌, ◌%◌, ◌^◌, ◌<◌, ◌≤◌, true, List, length, get_or, map, slice_index, Option, Some, None, refl, sym, ap, subst}
use Rattle.std.proofs.Common.{◌∙◌, arith, inl, inr}
use Rattle.std.specs.List.{range_with_len}
use Rattle.std.proofs.Math.Nat.{mod-lt}
use Rattle.std.proofs.lemmas.Nat.{div-add-mod', div_below, row_fits}
use Rattle.std.proofs.lemmas.Bool.{cases_lt}
use Rattle.std.proofs.lemmas.List.{get_or_past}
use Rattle.std.proofs.lemmas.List.FromFn.{length-map-range_with_len, get_or-map-range_with_len}
use Rattle.za_alpha.specs.Words.{has}
use Rattle.za_order.specs.Views.{participants}
use Rattle.za_order.specs.Entries.{tertiary}
use Rattle.za_order.specs.Labels.{number, number_of, label}
use Rattle.za_order.specs.Locals.{Ids, ids}
use Rattle.za_order.proofs.Entries.{tertiary-sound}
use Rattle.za_order.proofs.Labels.{labels_are_bounded}
use Rattle.za_order.proofs.Numbers.{number_of-parts}
use Rattle.za_gossip.specs.declared.gossip.Level.TheVariants.{Tertiary}
use Rattle.za_gossip.specs.Rows.{rows_of, rows_after}
use Rattle.za_gossip.proofs.Blocks.{entry-of-block}
use Rattle.za_gossip.proofs.LevelRows.{row-entry, length-row}

-- an entry of a tertiary row
tertiary-entry : (n : ℕ) (known : Ids) (q r s : ℕ) → q < n → r < n → s < n →
    get_or (rows_of n known).tertiary (q * (n * n) + (r * n + s)) 0 ≡ known.tertiary q r s
tertiary-entry n known q r s lq lr ls =
    row-entry Tertiary n known q (r * n + s) lq (let f = row_fits r n n n lr (omega arith) in omega arith)
    ∙ entry-of-block (λ x. map (known.tertiary q x) (range_with_len 0 n)) n (λ x. length-map-range_with_len (known.tertiary q x) 0 n) n r s lr ls
    ∙ get_or-map-range_with_len (known.tertiary q r) 0 n s s 0 ls (omega arith)

regroup : (q r s n : ℕ) → (q * n + r) * n + s ≡ q * (n * n) + (r * n + s)
regroup q r s n = grind (arith)

module _ (loc : ℕ → List ℕ) (n : ℕ) (some : 0 < n) (w : List ℕ) (p : ℕ) where
  -- its event is one of the process
  own : (q r s a k : ℕ) → k ≤ n ^ 3 → (o : Option ℕ) → tertiary (participants loc w) (length w) p q r s ≡ o → number loc n w o ≡ number_of n a k →
      has (loc a) s ≡ true
  own q r s a k l None e h = absurd (omega arith)
  own q r s a k l (Some i) e h =
      let at = tertiary-sound (participants loc w) (length w) p q r s i e in
      let same = number_of-parts n (slice_index w i) a (label loc n w i) k (labels_are_bounded loc n w i) l h in
      subst (λ (b : ℕ). has (loc b) s ≡ true) same.0 at.past.takes

  pub tertiary-column : (j a k : ℕ) → k ≤ n ^ 3 → slice_index (rows_after loc n w p).tertiary j ≡ number_of n a k → has (loc a) (j % n) ≡ true
  tertiary-column j a k l h =
      let row = (rows_after loc n w p).tertiary in
      let known = ids loc n w (length w) p in
      elim (cases_lt j (length row)) [
        | inr past ↦ absurd (let z = get_or_past row j 0 past in omega arith)
        | inl inside ↦
            let size = length-row Tertiary n known in
            let i : ℕ = j / n in
            let s : ℕ = j % n in
            let q : ℕ = i / n in
            let r : ℕ = i % n in
            let ls : s < n = mod-lt j some in
            let lr : r < n = mod-lt i some in
            let li : i < n * n = div_below j n (n * n) some (let e : n * (n * n) ≡ n * n * n = grind (arith) in omega arith) in
            let lq : q < n = div_below i n n some li in
            let place : q * (n * n) + (r * n + s) ≡ j = sym (regroup q r s n) ∙ ap (λ (x : ℕ). x * n + s) (div-add-mod' i n) ∙ div-add-mod' j n in
            own q r s a k l (tertiary (participants loc w) (length w) p q r s) refl
            (sym (tertiary-entry n known q r s lq lr ls) ∙ ap (λ (x : ℕ). get_or row x 0) place ∙ h)
      ]
