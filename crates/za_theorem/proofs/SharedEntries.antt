-- Numbers tell which entries are shared.
use Rattle.std.proofs.Common.{ℕ, Bool, not, ◌&&◌, ◌||◌, ◌==◌, ◌≡◌, List, length, map, Option, ap, ◌∙◌}
use Rattle.std.specs.List.{range_with_len, list_any}
use Rattle.za_alpha.specs.Words.{has, IsAlphabet, IsWord}
use Rattle.za_order.specs.Views.{participants}
use Rattle.za_order.specs.Entries.{primary, secondary}
use Rattle.za_order.specs.Labels.{number}
use Rattle.za_order.specs.Locals.{Ids, ids, is_event, earlier, best, under}
use Rattle.za_gossip.proofs.Numbers.{newest_is_best}
use Rattle.za_residue.specs.Laws.{omitted}
use Rattle.za_local.proofs.SharedEntries.{found-primary, found-secondary, shared}
use Rattle.za_theorem.proofs.Agreement.{any-agree, earlier_by, under_by, omitted_by}

module _ (loc : ℕ → List ℕ) (letters n : ℕ) (w : List ℕ) (alphabet : IsAlphabet loc letters n) (word : IsWord letters w) where
  abbrev who : ℕ → List ℕ
  who = participants loc w

  abbrev known : ℕ → Ids
  known = ids loc n w (length w)

  abbrev range : List ℕ
  range = range_with_len 0 n

  pub earlier-shared : (ps : List ℕ) (x s : ℕ) → earlier_by n known ps x s ≡ earlier who n (length w) ps x s
  earlier-shared ps x s =
      let o : Option ℕ = primary who (length w) x s in
      shared loc letters n w alphabet word o (list_any (λ y. has (map (known y).primary range) (number loc n w o)) ps)
      (λ e. list_any (λ y. list_any (λ t. is_event (primary who (length w) y t) e) range) ps)
      (λ e is. any-agree (λ y. has (map (known y).primary range) (number loc n w o)) (λ y. list_any (λ t. is_event (primary who (length w) y t) e) range) ps
      (λ y h. found-primary loc letters n w alphabet word x y s e is))

  pub under-shared : (xs : List ℕ) (x r s : ℕ) → under_by n known xs x r s ≡ under who n (length w) xs x r s
  under-shared xs x r s =
      let o : Option ℕ = primary who (length w) x s in
      let b : ℕ = best who n (length w) xs r in
      ap (λ (z : ℕ). not (has xs r) && (not (number loc n w o == 0) && has (map ((known z).secondary r) range) (number loc n w o)))
      (newest_is_best loc letters n w xs r alphabet word)
      ∙ ap (λ c. not (has xs r) && c)
      (shared loc letters n w alphabet word o (has (map ((known b).secondary r) range) (number loc n w o))
      (λ e. list_any (λ t. is_event (secondary who (length w) b r t) e) range)
      (λ e is. found-secondary loc letters n w alphabet word x b r s e is))

  pub omitted-shared : (xs : List ℕ) (set : ℕ → Bool) (ps : List ℕ) (x s : ℕ) → omitted_by n known xs set ps x s ≡ omitted who n (length w) xs set ps x s
  omitted-shared xs set ps x s =
      ap (λ b. b || list_any (λ r. set r && under_by n known xs x r s) range) (earlier-shared ps x s)
      ∙ ap (λ b. earlier who n (length w) ps x s || b)
      (any-agree (λ r. set r && under_by n known xs x r s) (λ r. set r && under who n (length w) xs x r s) range
      (λ r k. ap (λ b. set r && b) (under-shared xs x r s)))
