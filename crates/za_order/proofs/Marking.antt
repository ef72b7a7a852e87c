-- The marks of a past, made from the event downwards.
use Rattle.std.proofs.Common.{◌≡◌, ℕ, suc, ◌<◌, Bool, true, false, ◌||◌, List, ◌++◌, ◌==◌, length, get_or, set, replicate, map, refl, sym, ap, subst, ◌∙◌}
use Rattle.std.proofs.Common.{arith, inl, inr, eq-eqb, ne_eqb}
use Rattle.std.specs.List.{range_with_len}
use Rattle.std.proofs.lemmas.Bool.{cases_eq, or_left, or_right, cond-true, cond-false}
use Rattle.std.proofs.lemmas.List.{get_or-set_same, get_or-set_other, get_or-replicate, length-replicate, length-set}
use Rattle.std.proofs.lemmas.List.FromFn.{fill_by_all}
use Rattle.za_alpha.specs.Words.{has, meets}
use Rattle.za_order.specs.Views.{in_view, in_past}
use Rattle.za_order.proofs.Sets.{same-test, has-append}
use Rattle.za_order.proofs.Views.{view-sound, view-complete}

-- processes that are in one set are in the other: the views are one
view-same : (who : ℕ → List ℕ) (n : ℕ) (ps qs : List ℕ) (i : ℕ) → ((p : ℕ) → has ps p ≡ has qs p) → in_view who n ps i ≡ in_view who n qs i
view-same who n ps qs i same =
    same-test (in_view who n ps i) (in_view who n qs i)
    (λ v. let r = view-sound who n ps i v in view-complete who n qs i r.event r.process r.below r.takes (sym (same r.process) ∙ r.asked) r.chain)
    (λ v. let r = view-sound who n qs i v in view-complete who n ps i r.event r.process r.below r.takes (same r.process ∙ r.asked) r.chain)

-- of the row, the past of the event `at` has what is marked, and what the processes know below n
pub record IsMarkedFrom (who : ℕ → List ℕ) (at size n : ℕ) (known : List ℕ) (marks : List Bool) : Type 0 where
  pub long : length marks ≡ size
  pub past : (k : ℕ) → k < size → (get_or marks k false || in_view who n known k) ≡ in_past who at k

module _ (who : ℕ → List ℕ) (at size : ℕ) where
  -- before the first step
  pub marking-init : (n : ℕ) (known : List ℕ) (marks : List Bool) → n ≡ suc at → marks ≡ replicate size false → known ≡ who at →
      IsMarkedFrom who at size n known marks
  marking-init n known marks e m k = record {
    long = ap length m ∙ length-replicate size false;
    past = λ i l.
        ap (λ b. b || in_view who n known i) (ap (λ x. get_or x i false) m ∙ get_or-replicate size i false false l)
        ∙ ap (λ x. in_view who x known i) e ∙ ap (λ ps. in_view who (suc at) ps i) k;
  }

  -- the events below n + 1 are those below n, and n
  one-more : (n i : ℕ) (known : List ℕ) (marks : List Bool) → i ≡ suc n → IsMarkedFrom who at size i known marks → IsMarkedFrom who at size (suc n) known marks
  one-more n i known marks e h = subst (λ m. IsMarkedFrom who at size m known marks) e h

  -- the event n shares a process with those known
  pub marking-met : (n i : ℕ) (known more : List ℕ) (marks : List Bool) → i ≡ suc n → IsMarkedFrom who at size i known marks → n < size →
      meets (who n) known ≡ true →
      ((p : ℕ) → has more p ≡ (has known p || has (who n) p)) → IsMarkedFrom who at size n more (set marks n true)
  marking-met n i known more marks e h l m joined = record {
    long = length-set marks n true ∙ h.long;
    past = λ k lk.
        let was = (one-more n i known marks e h).past k lk in
        let now : in_view who n more k ≡ in_view who n (known ++ who n) k =
        view-same who n more (known ++ who n) k (λ p. joined p ∙ sym (has-append known (who n) p)) in
        let step = cond-true (meets (who n) known) (k == n || in_view who n (known ++ who n) k) (in_view who n known k) m in
        elim (cases_eq k n) [
          | inl same ↦
              let mark : get_or (set marks n true) k false ≡ true = rw same (get_or-set_same marks n true false (let size_is = h.long in omega arith)) in
              or_left (get_or (set marks n true) k false) (in_view who n more k) mark
              ∙ sym (sym was ∙ or_right (get_or marks k false) (in_view who (suc n) known k)
              (step ∙ or_left (k == n) (in_view who n (known ++ who n) k) (eq-eqb k n same)))
          | inr ne ↦
              ap (λ b. b || in_view who n more k) (get_or-set_other marks n k true false ne)
              ∙ ap (λ b. get_or marks k false || b) (now ∙ sym (step ∙ ap (λ b. b || in_view who n (known ++ who n) k) (ne_eqb k n ne)))
              ∙ was
        ];
  }

  -- it shares none
  pub marking-apart : (n i : ℕ) (known : List ℕ) (marks : List Bool) → i ≡ suc n → IsMarkedFrom who at size i known marks → meets (who n) known ≡ false →
      IsMarkedFrom who at size n known marks
  marking-apart n i known marks e h m = record {
    long = h.long;
    past = λ k l.
        ap (λ b. get_or marks k false || b) (sym (cond-false (meets (who n) known) (k == n || in_view who n (known ++ who n) k) (in_view who n known k) m))
        ∙ (one-more n i known marks e h).past k l;
  }

  -- no event is left
  pub marking-end : (i : ℕ) (known : List ℕ) (marks : List Bool) → i ≡ 0 → IsMarkedFrom who at size i known marks →
      marks ≡ map (in_past who at) (range_with_len 0 size)
  marking-end i known marks e h =
      fill_by_all (in_past who at) marks size false h.long
      (λ k l. or-none (get_or marks k false) ∙ ap (λ m. get_or marks k false || in_view who m known k) (sym e) ∙ h.past k l)
    where
      or-none : (b : Bool) → b ≡ (b || false)
      or-none true = refl
      or-none false = refl
