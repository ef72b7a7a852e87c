-- What an event makes of numbers, where each number is replaced by one of its own.
use Rattle.std.proofs.Common.{◌≡◌, ℕ, ◌+◌, ◌^◌, Bool, true, false, cond, not, ◌&&◌, ◌||◌, ◌==◌, inl, inr, List, map, flat_map, sym, ap, ◌∙◌, eq-eqb, ne_eqb}
use Rattle.std.specs.List.{range_with_len, list_any, list_all}
use Rattle.std.proofs.Math.Path.{fun_ext}
use Rattle.std.proofs.lemmas.Bool.{cases_eq}
use Rattle.za_alpha.specs.Words.{has}
use Rattle.za_alpha.specs.Search.{least}
use Rattle.za_order.specs.Labels.{number_of}
use Rattle.za_order.specs.Locals.{Ids}
use Rattle.za_order.proofs.Sets.{has-map, has-flat_map}
use Rattle.za_order.proofs.Equivalent.{same-ids}
use Rattle.za_gossip.specs.Rows.{rows_of}
use Rattle.za_gossip.specs.Updates.{newest, new_label, new_primary, new_secondary, new_tertiary, updated}
use Rattle.za_gossip.specs.Renaming.{IsRenaming, KeepsLetter, renamed}
use Rattle.za_gossip.specs.Laws.{NewestByEquality, NewLabelByEquality, UpdateByEquality}

module _ (processes : ℕ) (xs : List ℕ) (known : ℕ → Ids) (rename : ℕ → ℕ) (is : IsRenaming rename) where
  abbrev other : ℕ → Ids
  other p = renamed rename (known p)

  -- a test of equality says the same
  same-test : (i j : ℕ) → (rename i == rename j) ≡ (i == j)
  same-test i j =
      elim (cases_eq i j) [
        | inl e ↦ eq-eqb (rename i) (rename j) (ap rename e) ∙ sym (eq-eqb i j e)
        | inr ne ↦ ne_eqb (rename i) (rename j) (λ e. ne (is.apart i j e)) ∙ sym (ne_eqb i j ne)
      ]

  -- and one with a number that stays
  same-as : (i v : ℕ) → rename v ≡ v → (rename i == v) ≡ (i == v)
  same-as i v stays = ap (λ x. rename i == x) (sym stays) ∙ same-test i v

  pub newest-renamed : (r : ℕ) → newest processes xs other r ≡ newest processes xs known r
  newest-renamed r =
      let range = range_with_len 0 processes in
      ap (λ f. least f processes) (fun_ext (λ x. ap (λ f. has xs x && list_all f xs) (fun_ext (λ y.
      let event : ℕ = (known y).primary r in
      ap (λ b. b || list_any (λ q. rename ((known x).secondary q r) == rename event) range) (same-as event 0 is.none)
      ∙ ap (λ f. event == 0 || list_any f range) (fun_ext (λ q. same-test ((known x).secondary q r) event))))))

  module _ (letter : ℕ) (keeps : KeepsLetter processes letter rename) where
    -- the tertiary numbers have the same of the letter's
    same-taken : (own : Ids) (k : ℕ) →
        has (rows_of processes (renamed rename own)).tertiary (number_of processes letter k)
        ≡ has (rows_of processes own).tertiary (number_of processes letter k)
    same-taken own k =
        let range = range_with_len 0 processes in
        let v : ℕ = number_of processes letter k in
        let each : (t : ℕ → ℕ → ℕ → ℕ) →
        has (flat_map (λ q. flat_map (λ r. map (t q r) range) range) range) v
        ≡ list_any (λ q. list_any (λ r. list_any (λ s. t q r s == v) range) range) range = λ t.
        has-flat_map (λ q. flat_map (λ r. map (t q r) range) range) range v
        ∙ ap (λ f. list_any f range) (fun_ext
        (λ q. has-flat_map (λ r. map (t q r) range) range v ∙ ap (λ f. list_any f range) (fun_ext (λ r. has-map (t q r) range v)))) in
        each (λ q r s. rename (own.tertiary q r s))
        ∙ ap (λ f. list_any f range) (fun_ext
        (λ q. ap (λ f. list_any f range) (fun_ext (λ r. ap (λ f. list_any f range) (fun_ext (λ s. same-as (own.tertiary q r s) v (keeps k)))))))
        ∙ sym (each own.tertiary)

    pub label-renamed : new_label processes xs letter other ≡ new_label processes xs letter known
    label-renamed = ap (λ f. least f (processes ^ 3 + 1)) (fun_ext (λ k. ap not (same-taken (known (least (has xs) processes)) k)))

    -- a number that is one or the other
    choice : (b : Bool) (m n i j : ℕ) → m ≡ rename i → n ≡ rename j → cond b m n ≡ rename (cond b i j)
    choice true m n i j e f = e
    choice false m n i j e f = f

    -- what the newest had
    had : {X : Type 0} (part : Ids → X) (q : ℕ) → part (other (newest processes xs other q)) ≡ part (other (newest processes xs known q))
    had part q = ap (λ p. part (other p)) (newest-renamed q)

    primary-renamed : (q : ℕ) → new_primary processes xs letter other q ≡ rename (new_primary processes xs letter known q)
    primary-renamed q =
        choice (has xs q) _ _ (number_of processes letter (new_label processes xs letter known)) ((known (newest processes xs known q)).primary q)
        (ap (number_of processes letter) label-renamed ∙ sym (keeps (new_label processes xs letter known))) (had (λ own. own.primary q) q)

    secondary-renamed : (q r : ℕ) → new_secondary processes xs letter other q r ≡ rename (new_secondary processes xs letter known q r)
    secondary-renamed q r =
        choice (has xs q) _ _ (new_primary processes xs letter known r) ((known (newest processes xs known q)).secondary q r)
        (primary-renamed r) (had (λ own. own.secondary q r) q)

    tertiary-renamed : (q r s : ℕ) → new_tertiary processes xs letter other q r s ≡ rename (new_tertiary processes xs letter known q r s)
    tertiary-renamed q r s =
        choice (has xs q) _ _ (new_secondary processes xs letter known r s) ((known (newest processes xs known q)).tertiary q r s)
        (secondary-renamed r s) (had (λ own. own.tertiary q r s) q)

    pub update-renamed : updated processes xs letter other ≡ renamed rename (updated processes xs letter known)
    update-renamed =
        same-ids (updated processes xs letter other) (renamed rename (updated processes xs letter known)) primary-renamed secondary-renamed tertiary-renamed

-- in the words of the laws
pub newest_by_equality : NewestByEquality
newest_by_equality processes xs r known rename is = newest-renamed processes xs known rename is r

pub new_label_by_equality : NewLabelByEquality
new_label_by_equality processes xs letter known rename is keeps = label-renamed processes xs known rename is letter keeps

pub update_by_equality : UpdateByEquality
update_by_equality processes xs letter known rename is keeps = update-renamed processes xs known rename is letter keeps
