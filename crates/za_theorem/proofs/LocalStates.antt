-- Transitions and verdicts depend on local states alone.
use Rattle.std.proofs.Common.{◌≡◌, ℕ, true, inl, inr, List, [], ◌∷◌, map, refl, sym, ap, subst, ◌∙◌}
use Rattle.za_alpha.specs.Words.{has}
use Rattle.za_order.proofs.Sets.{has-cases}
use Rattle.za_local.specs.Locals.{LocalState, local_state}
use Rattle.za_theorem.specs.Codes.{local_numbers}
use Rattle.za_theorem.specs.Laws.{TransitionIsLocal, VerdictIsLocal, LocalsAreLists, CodesAreBounded, CodesTellApart}
use Rattle.za_theorem.proofs.Transition.{next-is, label-is, verdict-is}
use Rattle.za_theorem.proofs.Finite.{local-is, code-below, code-same}

-- equal lists are equal at each of the processes
mapped-same : (f g : ℕ → LocalState) (xs : List ℕ) → map f xs ≡ map g xs → (x : ℕ) → has xs x ≡ true → f x ≡ g x
mapped-same f g [] e x h = cc
mapped-same f g (y ∷ ys) e x h =
    let first : f y ≡ g y = cc in
    let rest : map f ys ≡ map g ys = cc in
    elim (has-cases y x ys h) [
      | inl s ↦ subst (λ v. f v ≡ g v) s first
      | inr r ↦ mapped-same f g ys rest x r
    ]

pub transition_is_local : TransitionIsLocal
transition_is_local loc n d u v a whole wu wv small e =
    let numbers : ℕ → List ℕ = λ x. local_numbers (local_state loc n d u x) in
    let same : (x : ℕ) → has (loc a) x ≡ true → numbers x ≡ local_numbers (local_state loc n d v x) = λ x h.
    ap local_numbers (mapped-same (local_state loc n d u) (local_state loc n d v) (loc a) e x h) in (
      λ p h. sym (next-is loc n d whole u wu a small numbers (λ x k. refl) p h) ∙ next-is loc n d whole v wv a small numbers same p h,
      sym (label-is loc n d whole u wu a small numbers (λ x k. refl)) ∙ label-is loc n d whole v wv a small numbers same,
    )

pub verdict_is_local : VerdictIsLocal
verdict_is_local loc n d u v whole wu wv e =
    let numbers : ℕ → List ℕ = λ x. local_numbers (local_state loc n d u x) in
    sym (verdict-is loc n d whole u wu numbers (λ x l. refl)) ∙ verdict-is loc n d whole v wv numbers (λ x l. ap local_numbers (e x l))

pub locals_are_lists : LocalsAreLists
locals_are_lists loc n d w p alphabet total word = local-is loc n d w p alphabet total word

pub codes_are_bounded : CodesAreBounded
codes_are_bounded letters n k a h = code-below letters n k a h

pub codes_tell_apart : CodesTellApart
codes_tell_apart letters n k a b ha hb e = code-same letters n k a b ha hb e
