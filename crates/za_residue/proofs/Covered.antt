-- What the omitted pasts cover: what is beyond, and what the processes before know.
use Rattle.std.proofs.Common.{◌≡◌, ℕ, ◌<◌, ◌≤◌, Bool, true, false, not, ◌&&◌, ◌||◌, inl, inr, List, [], ◌∷◌, length, Option, Some, None, refl, sym, ap, subst}
use Rattle.std.proofs.Common.{◌∙◌}
use Rattle.std.specs.List.{range_with_len, list_any}
use Rattle.std.specs.Option.{option_map_or}
use Rattle.std.proofs.lemmas.Bool.{cases_Bool, or_cases, or_left, or_right, and_parts, and_from, not_from_false}
use Rattle.za_alpha.specs.Words.{has}
use Rattle.za_order.specs.Views.{participants, in_view, in_past, Chain}
use Rattle.za_order.specs.Entries.{primary, last_in_past, secondary}
use Rattle.za_order.specs.Locals.{is_event, earlier, best, under, is_covered}
use Rattle.za_order.proofs.Options.{then-some, is_event-some, some-is_event}
use Rattle.za_order.proofs.Sets.{same-test, any-here, any-where, in-range}
use Rattle.za_order.proofs.Views.{past-sound, past-complete}
use Rattle.za_order.proofs.Entries.{primary-sound}
use Rattle.za_order.proofs.Participants.{IsOver}
use Rattle.za_order.proofs.Processes.{primary-process, secondary-processes}
use Rattle.za_order.proofs.LatestNews.{IsNewest, newest-some, best-newest}
use Rattle.za_residue.specs.Laws.{omitted}
use Rattle.za_residue.proofs.SharedPasts.{IsEarlier, IsUnder, earlier-sound, earlier-complete, under-sound, under-complete}

-- an entry that passes a test is some event
pub passes-some : (test : ℕ → Bool) (o : Option ℕ) → option_map_or test o false ≡ true → (e : ℕ) × (o ≡ Some e) × (test e ≡ true)
passes-some test None h = cc
passes-some test (Some e) h = (e, refl, h)

pub some-passes : (test : ℕ → Bool) (o : Option ℕ) (e : ℕ) → o ≡ Some e → test e ≡ true → option_map_or test o false ≡ true
some-passes test o e h t = ap (λ o. option_map_or test o false) h ∙ t

same-some : (o : Option ℕ) (a b : ℕ) → o ≡ Some a → o ≡ Some b → a ≡ b
same-some o a b h k = let z : Some a ≡ Some b = sym h ∙ k in cc

-- whether i is in the past of the latest event of a process of the set that one of xs knows
abbrev pub is_beyond : (ℕ → List ℕ) → ℕ → ℕ → List ℕ → (ℕ → Bool) → ℕ → Bool
is_beyond who processes n xs set i =
    list_any (λ r. set r && option_map_or (λ e. in_past who e i) (primary who n (best who processes n xs r) r) false) (range_with_len 0 processes)

module _ (loc : ℕ → List ℕ) (letters processes : ℕ) (w : List ℕ) (over : IsOver loc letters processes w) (n : ℕ) (l : n ≤ length w) where
  abbrev who : ℕ → List ℕ
  who = participants loc w

  abbrev range : List ℕ
  range = range_with_len 0 processes

  -- the tests of a set for its processes are those of the definitions
  earlier-from : (ps : List ℕ) (x s : ℕ) → earlier who processes n ps x s ≡ true → IsEarlier who n ps x s
  earlier-from ps x s h =
      let e = passes-some (λ e. list_any (λ y. list_any (λ t. is_event (primary who n y t) e) range) ps) (primary who n x s) h in
      let y = any-where (λ y. list_any (λ t. is_event (primary who n y t) e.0) range) ps e.2 in
      let t = any-where (λ t. is_event (primary who n y.0 t) e.0) range y.2 in
      record { event = e.0; other = y.0; process = t.0; of_one = e.1; among = y.1; of_other = is_event-some (primary who n y.0 t.0) e.0 t.2 }

  earlier-to : (ps : List ℕ) (x s : ℕ) → IsEarlier who n ps x s → earlier who processes n ps x s ≡ true
  earlier-to ps x s e =
      some-passes (λ e. list_any (λ y. list_any (λ t. is_event (primary who n y t) e) range) ps) (primary who n x s) e.event e.of_one
      (any-here (λ y. list_any (λ t. is_event (primary who n y t) e.event) range) ps e.other e.among
      (any-here (λ t. is_event (primary who n e.other t) e.event) range e.process
      (in-range processes e.process (primary-process loc letters processes w over n l e.other e.process e.event e.of_other))
      (some-is_event (primary who n e.other e.process) e.event e.of_other)))

  under-from : (xs : List ℕ) (x r s : ℕ) → under who processes n xs x r s ≡ true → IsUnder who n (best who processes n xs r) x r s
  under-from xs x r s h =
      let b : ℕ = best who processes n xs r in
      let p = and_parts (not (has xs r)) (option_map_or (λ e. list_any (λ t. is_event (secondary who n b r t) e) range) (primary who n x s) false) h in
      let e = passes-some (λ e. list_any (λ t. is_event (secondary who n b r t) e) range) (primary who n x s) p.1 in
      let t = any-where (λ t. is_event (secondary who n b r t) e.0) range e.2 in
      record { event = e.0; process = t.0; of_one = e.1; of_best = is_event-some (secondary who n b r t.0) e.0 t.2 }

  under-to : (xs : List ℕ) (x r s : ℕ) → has xs r ≡ false → IsUnder who n (best who processes n xs r) x r s → under who processes n xs x r s ≡ true
  under-to xs x r s out u =
      let b : ℕ = best who processes n xs r in
      and_from (not (has xs r)) (option_map_or (λ e. list_any (λ t. is_event (secondary who n b r t) e) range) (primary who n x s) false)
      (not_from_false (has xs r) out)
      (some-passes (λ e. list_any (λ t. is_event (secondary who n b r t) e) range) (primary who n x s) u.event u.of_one
      (any-here (λ t. is_event (secondary who n b r t) u.event) range u.process
      (in-range processes u.process (secondary-processes loc letters processes w over n l b r u.process u.event u.of_best).1)
      (some-is_event (secondary who n b r u.process) u.event u.of_best)))

  covered-from : (x : ℕ) (set : ℕ → Bool) (i : ℕ) → is_covered who processes n x set i ≡ true → (y : ℕ) × (set y ≡ true) × (e : ℕ)
      × (primary who n x y ≡ Some e) × Chain who i e
  covered-from x set i h =
      let y = any-where (λ y. set y && option_map_or (λ e. in_past who e i) (primary who n x y) false) range h in
      let p = and_parts (set y.0) (option_map_or (λ e. in_past who e i) (primary who n x y.0) false) y.2 in
      let e = passes-some (λ e. in_past who e i) (primary who n x y.0) p.1 in
      (y.0, p.0, e.0, e.1, past-sound who e.0 i e.2)

  pub covered-to : (x : ℕ) (set : ℕ → Bool) (i y e : ℕ) → set y ≡ true → primary who n x y ≡ Some e → Chain who i e → is_covered who processes n x set i ≡ true
  covered-to x set i y e s h c =
      any-here (λ y. set y && option_map_or (λ e. in_past who e i) (primary who n x y) false) range y
      (in-range processes y (primary-process loc letters processes w over n l x y e h))
      (and_from (set y) (option_map_or (λ e. in_past who e i) (primary who n x y) false) s
      (some-passes (λ e. in_past who e i) (primary who n x y) e h (past-complete who e i y (primary-sound who n x y e h).takes c)))

  -- the best of xs has the latest news, where xs are processes
  pub best-knows : (xs : List ℕ) (r x : ℕ) → has xs x ≡ true → ((y : ℕ) → has xs y ≡ true → y < processes) → IsNewest who n xs r (best who processes n xs r)
  best-knows xs r x h bound =
      let some = newest-some who n xs r x h in
      best-newest who n processes xs r some.0 (bound some.0 some.1.among) some.1

  -- in the view of x the omitted pasts cover what is beyond, and what those before it know
  pub omitted-cover : (xs : List ℕ) (set : ℕ → Bool) (ps : List ℕ) (x i : ℕ) → has xs x ≡ true → ((y : ℕ) → has xs y ≡ true → y < processes) → list_any set xs
      ≡ false →
      in_view who n (x ∷ []) i ≡ true → is_covered who processes n x (omitted who processes n xs set ps x) i
      ≡ (is_beyond who processes n xs set i || in_view who n ps i)
  omitted-cover xs set ps x i hx bound apart v =
      let left = omitted who processes n xs set ps x in
      let known = λ (r : ℕ). option_map_or (λ e. in_past who e i) (primary who n (best who processes n xs r) r) false in
      let beyond = λ (r : ℕ). set r && known r in
      same-test (is_covered who processes n x left i) (is_beyond who processes n xs set i || in_view who n ps i)
      (λ h.
      let c = covered-from x left i h in
      elim (or_cases (earlier who processes n ps x c.0) (list_any (λ r. set r && under who processes n xs x r c.0) range) c.1) [
        | inl a ↦
            let e = earlier-from ps x c.0 a in
            let same = same-some (primary who n x c.0) c.2 e.event c.3 e.of_one in
            or_right (is_beyond who processes n xs set i) (in_view who n ps i) (earlier-sound who n ps x c.0 i e (subst (λ z. Chain who i z) same c.4))
        | inr a ↦
            let r = any-where (λ r. set r && under who processes n xs x r c.0) range a in
            let p = and_parts (set r.0) (under who processes n xs x r.0 c.0) r.2 in
            let u = under-from xs x r.0 c.0 p.1 in
            let b : ℕ = best who processes n xs r.0 in
            let g = then-some (λ e. last_in_past who e u.process) (primary who n b r.0) u.event u.of_best in
            let same = same-some (primary who n x c.0) c.2 u.event c.3 u.of_one in
            let d = under-sound who n b x r.0 c.0 g.0 i g.1 u (subst (λ z. Chain who i z) same c.4) in
            or_left (is_beyond who processes n xs set i) (in_view who n ps i)
            (any-here beyond range r.0 r.1 (and_from (set r.0) (known r.0) p.0
            (some-passes (λ e. in_past who e i) (primary who n b r.0) g.0 g.1 (past-complete who g.0 i r.0 (primary-sound who n b r.0 g.0 g.1).takes d))))
      ])
      (λ h. elim (or_cases (is_beyond who processes n xs set i) (in_view who n ps i) h) [
        | inl a ↦
            let r = any-where beyond range a in
            let b : ℕ = best who processes n xs r.0 in
            let p = and_parts (set r.0) (known r.0) r.2 in
            let g = passes-some (λ e. in_past who e i) (primary who n b r.0) p.1 in
            let u = under-complete who n xs b x r.0 g.0 i (best-knows xs r.0 x hx bound) hx g.1 v (past-sound who g.0 i g.2) in
            let out : has xs r.0 ≡ false = elim (cases_Bool (has xs r.0)) [
              | inr f ↦ f
              | inl t ↦ let z = any-here set xs r.0 t p.0 in cc
            ] in
            covered-to x left i u.0 u.1.event
            (or_right (earlier who processes n ps x u.0) (list_any (λ r. set r && under who processes n xs x r u.0) range)
            (any-here (λ r. set r && under who processes n xs x r u.0) range r.0 r.1 (and_from (set r.0) (under who processes n xs x r.0 u.0) p.0
            (under-to xs x r.0 u.0 out u.1))))
            u.1.of_one u.2
        | inr a ↦
            let e = earlier-complete who n ps x i v a in
            covered-to x left i e.0 e.1.event
            (or_left (earlier who processes n ps x e.0) (list_any (λ r. set r && under who processes n xs x r e.0) range) (earlier-to ps x e.0 e.1))
            e.1.of_one e.2
      ])
