-- What numbers tell of entries: whose they are, and who knows which.
use Rattle.std.proofs.Common.{◌≡◌, ℕ, ◌+◌, ◌^◌, ◌<◌, ◌≤◌, Bool, true, false, not, ◌&&◌, ◌||◌, ◌==◌, inl, inr, List, [], ◌∷◌, length, slice_index, map, flat_map}
use Rattle.std.proofs.Common.{Some, sym, ap, subst, ◌∙◌, arith, eqb-true, eq-eqb, ne_eqb}
use Rattle.std.specs.List.{range_with_len, list_any, list_all}
use Rattle.std.specs.Option.{option_map_or}
use Rattle.std.proofs.Math.Path.{fun_ext}
use Rattle.std.proofs.lemmas.Bool.{cases_Bool, cases_order, or_left, not_from_true, not_from_false}
use Rattle.za_alpha.specs.Words.{has, IsAlphabet, IsWord}
use Rattle.za_alpha.specs.Search.{least}
use Rattle.za_order.specs.Views.{participants, in_view}
use Rattle.za_order.specs.Entries.{primary, tertiary}
use Rattle.za_order.specs.Labels.{least_participant, label, number_of, number}
use Rattle.za_order.specs.Locals.{Ids, ids, best}
use Rattle.za_order.proofs.Options.{option-cases}
use Rattle.za_order.proofs.Sets.{same-test, any-here, any-where, has-map, has-flat_map, in-range}
use Rattle.za_order.proofs.Participants.{IsOver, word-over}
use Rattle.za_order.proofs.Processes.{primary-secondary, secondary-processes, tertiary-processes}
use Rattle.za_order.proofs.ViewLaws.{newer_by_secondary}
use Rattle.za_alpha.proofs.Least.{least-true, least-le}
use Rattle.za_order.proofs.Labels.{label-free, label-least, labels_are_bounded}
use Rattle.za_order.proofs.Numbers.{number_of-parts, number-some, numbers_tell_apart}
use Rattle.za_gossip.specs.Rows.{rows_of}
use Rattle.za_gossip.specs.Updates.{knows_number, newest, new_label}
use Rattle.za_gossip.specs.Laws.{NewestIsBest}

module _ (loc : ℕ → List ℕ) (letters processes : ℕ) (w : List ℕ) (alphabet : IsAlphabet loc letters processes) (word : IsWord letters w) (n : ℕ)
    (l : n ≤ length w) where
  abbrev who : ℕ → List ℕ
  who = participants loc w

  abbrev known : ℕ → Ids
  known = ids loc processes w n

  abbrev over : IsOver loc letters processes w
  over = word-over loc letters processes w alphabet word

  -- the number of what y knows is one of the secondary numbers of x exactly if x knows it
  seen-some : (r x y e : ℕ) → primary who n y r ≡ Some e →
      list_any (λ q. (known x).secondary q r == (known y).primary r) (range_with_len 0 processes) ≡ in_view who n (x ∷ []) e
  seen-some r x y e h =
      let newer = newer_by_secondary who n y x r e h in
      let test : ℕ → Bool = λ q. (known x).secondary q r == (known y).primary r in
      let own = primary-secondary who n y r e h in
      same-test (list_any test (range_with_len 0 processes)) (in_view who n (x ∷ []) e)
      (λ a.
      let q = any-where test (range_with_len 0 processes) a in
      let same = eqb-true ((known x).secondary q.0 r) ((known y).primary r) q.2 in
      newer.1 (q.0, numbers_tell_apart loc letters processes w n x q.0 r y r r alphabet word l (same ∙ ap (number loc processes w) (h ∙ sym own)) ∙ own))
      (λ v.
      let s = newer.0 v in
      any-here test (range_with_len 0 processes) s.0 (in-range processes s.0 (secondary-processes loc letters processes w over n l x s.0 r e s.1).0)
      (eq-eqb ((known x).secondary s.0 r) ((known y).primary r) (ap (number loc processes w) (s.1 ∙ sym h))))

  -- so the test by numbers is the test by views
  pub seen : (r x y : ℕ) → knows_number processes (known x).secondary r ((known y).primary r)
      ≡ option_map_or (λ e. in_view who n (x ∷ []) e) (primary who n y r) true
  seen r x y =
      let any : Bool = list_any (λ q. (known x).secondary q r == (known y).primary r) (range_with_len 0 processes) in
      elim (option-cases (primary who n y r)) [
        | inl none ↦
            or_left ((known y).primary r == 0) any (eq-eqb ((known y).primary r) 0 (ap (number loc processes w) none))
            ∙ sym (ap (λ o. option_map_or (λ e. in_view who n (x ∷ []) e) o true) none)
        | inr one ↦
            ap (λ b. b || any) (ne_eqb ((known y).primary r) 0 (λ z. number-some loc processes w one.0 (sym (ap (number loc processes w) one.1) ∙ z)))
            ∙ seen-some r x y one.0 one.1
            ∙ sym (ap (λ o. option_map_or (λ e. in_view who n (x ∷ []) e) o true) one.1)
      ]

  -- and the newest by numbers is the best by views
  pub newest-best : (xs : List ℕ) (r : ℕ) → newest processes xs known r ≡ best who processes n xs r
  newest-best xs r = ap (λ f. least f processes) (fun_ext (λ x. ap (λ f. has xs x && list_all f xs) (fun_ext (λ y. seen r x y))))

-- in the words of the law
pub newest_is_best : NewestIsBest
newest_is_best loc letters processes w xs r alphabet word = newest-best loc letters processes w alphabet word (length w) (omega arith) xs r

-- the least number that passes is the one below which none does
pub least-is : (test : ℕ → Bool) (n k : ℕ) → k < n → test k ≡ true → ((j : ℕ) → j < k → test j ≡ false) → least test n ≡ k
least-is test n k l h none =
    let le = least-le test n k h in
    elim (cases_order (least test n) k) [
      | inl e ↦ e
      | inr o ↦ elim o [
        | inl lt ↦ absurd (let a = least-true test n (omega arith) in let b = none (least test n) lt in let c : true ≡ false = sym a ∙ b in cc)
        | inr gt ↦ absurd (omega arith)
      ]
    ]

module _ (loc : ℕ → List ℕ) (letters processes : ℕ) (w : List ℕ) (over : IsOver loc letters processes w) (n : ℕ) (l : n ≤ length w) where
  -- the row of tertiary numbers of p has the number of no event that is no tertiary entry
  tertiary-from : (p v : ℕ) → has (rows_of processes (ids loc processes w n p)).tertiary v ≡ true →
      (q : ℕ) × (r : ℕ) × (s : ℕ) × (number loc processes w (tertiary (participants loc w) n p q r s) ≡ v)
  tertiary-from p v h =
      let range = range_with_len 0 processes in
      let own = ids loc processes w n p in
      let block : ℕ → List ℕ = λ q. flat_map (λ r. map (own.tertiary q r) range) range in
      let q = any-where (λ q. has (block q) v) range (sym (has-flat_map block range v) ∙ h) in
      let r = any-where (λ r. has (map (own.tertiary q.0 r) range) v) range (sym (has-flat_map (λ r. map (own.tertiary q.0 r) range) range v) ∙ q.2) in
      let s = any-where (λ s. own.tertiary q.0 r.0 s == v) range (sym (has-map (own.tertiary q.0 r.0) range v) ∙ r.2) in
      (q.0, r.0, s.0, eqb-true (own.tertiary q.0 r.0 s.0) v s.2)

  -- and that of each that is one
  tertiary-to : (p q r s e : ℕ) → tertiary (participants loc w) n p q r s ≡ Some e →
      has (rows_of processes (ids loc processes w n p)).tertiary (number loc processes w (Some e)) ≡ true
  tertiary-to p q r s e h =
      let range = range_with_len 0 processes in
      let own = ids loc processes w n p in
      let v : ℕ = number loc processes w (Some e) in
      let block : ℕ → List ℕ = λ q. flat_map (λ r. map (own.tertiary q r) range) range in
      let b = tertiary-processes loc letters processes w over n l p q r s e h in
      has-flat_map block range v
      ∙ any-here (λ q. has (block q) v) range q (in-range processes q b.0)
      (has-flat_map (λ r. map (own.tertiary q r) range) range v
      ∙ any-here (λ r. has (map (own.tertiary q r) range) v) range r (in-range processes r b.1)
      (has-map (own.tertiary q r) range v
      ∙ any-here (λ s. own.tertiary q r s == v) range s (in-range processes s b.2) (eq-eqb (own.tertiary q r s) v (ap (number loc processes w) h))))

-- the label of the event n is the least whose number is not among the tertiary numbers of its least participant
pub label-new : (loc : ℕ → List ℕ) (letters processes : ℕ) (w : List ℕ) → IsOver loc letters processes w → (n : ℕ) → n < length w →
    new_label processes (participants loc w n) (slice_index w n) (ids loc processes w n) ≡ label loc processes w n
label-new loc letters processes w over n l =
    let who = participants loc w in
    let x : ℕ = least_participant loc processes w n in
    let a : ℕ = slice_index w n in
    let b : ℕ = label loc processes w n in
    let row : List ℕ = (rows_of processes (ids loc processes w n x)).tertiary in
    let small = labels_are_bounded loc processes in
    let le = small w n in
    let free : has row (number_of processes a b) ≡ false = elim (cases_Bool (has row (number_of processes a b))) [
      | inr f ↦ f
      | inl h ↦
          let k = tertiary-from loc letters processes w over n (omega arith) x (number_of processes a b) h in
          elim (option-cases (tertiary who n x k.0 k.1 k.2)) [
            | inl none ↦ absurd (let z = sym (ap (number loc processes w) none) ∙ k.3 in omega arith)
            | inr one ↦
                let p = number_of-parts processes (slice_index w one.0) a (label loc processes w one.0) b (small w one.0) le
                (sym (ap (number loc processes w) one.1) ∙ k.3) in
                absurd (label-free loc letters processes w over n one.0 l (k.0, k.1, k.2, one.1) p.0 p.1)
          ]
    ] in
    let taken : (k : ℕ) → k < b → has row (number_of processes a k) ≡ true = λ k lt.
    let d = label-least loc processes w n k lt in
    let h = tertiary-to loc letters processes w over n (omega arith) x d.1.0 d.1.1 d.1.2 d.0 d.1.3 in
    subst (λ v. has row v ≡ true) (ap (λ v. number_of processes v (label loc processes w d.0)) d.2 ∙ ap (λ v. number_of processes a v) d.3) h in
    least-is (λ k. not (has row (number_of processes a k))) (processes ^ 3 + 1) b (omega arith)
    (not_from_false (has row (number_of processes a b)) free)
    (λ k lt. not_from_true (has row (number_of processes a k)) (taken k lt))
