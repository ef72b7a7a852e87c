-- Moves of independent letters of an asynchronous automaton can be exchanged, so its language is trace-closed.
use Rattle.std.proofs.Common.{◌≡◌, ℕ, true, false, inl, inr, List, [], ◌∷◌, IsTrue, map, refl, sym, ap, ◌∙◌}
use Rattle.std.specs.List.{All, range_with_len}
use Rattle.std.proofs.Math.Path.{fun_ext}
use Rattle.std.proofs.lemmas.Bool.{cases_Bool, cond-true, cond-false}
use Rattle.za_alpha.specs.Words.{has, independent, IsSwap, Swaps, Done, Then}
use Rattle.za_alpha.proofs.Swaps.{apart-flip, apart-skips, equivalent-complete}
use Rattle.za_order.proofs.Sets.{has-here, has-there}
use Rattle.za_dfa.specs.Automata.{walk}
use Rattle.za_dfa.proofs.Diamonds.{walk-append}
use Rattle.za_theorem.specs.Asynchronous.{Asynchronous, moved, global_after}
use Rattle.za_theorem.specs.Laws.{AsynchronousIsClosed}
use Rattle.za_theorem.proofs.Seen.{is_some, some-has, none-has, seen, seen-on, seen-off, seen-equivalent, seen-all, no-claim}

-- rules that agree on a list
pub map-agree : {X : Type 0} (f g : ℕ → X) (xs : List ℕ) → ((x : ℕ) → has xs x ≡ true → f x ≡ g x) → map f xs ≡ map g xs
map-agree f g [] h = refl
map-agree f g (x ∷ xs) h = ap (λ v. v ∷ map f xs) (h x (has-here x x xs refl)) ∙ ap (λ vs. g x ∷ vs) (map-agree f g xs (λ y k. h y (has-there x y xs k)))

module _ (loc : ℕ → List ℕ) (z : Asynchronous) where
  moves : (g : ℕ → ℕ) (a p : ℕ) → has (loc a) p ≡ true → moved loc z g a p ≡ z.next a (map g (loc a)) p
  moves g a p t = cond-true (has (loc a) p) (z.next a (map g (loc a)) p) (g p) t

  stays : (g : ℕ → ℕ) (a p : ℕ) → has (loc a) p ≡ false → moved loc z g a p ≡ g p
  stays g a p f = cond-false (has (loc a) p) (z.next a (map g (loc a)) p) (g p) f

  -- no process takes part in two independent letters, so either order leads to the same global state
  pub exchange : (g : ℕ → ℕ) (a b p : ℕ) → independent loc a b ≡ true → moved loc z (moved loc z g a) b p ≡ moved loc z (moved loc z g b) a p
  exchange g a b p i =
      elim (cases_Bool (has (loc b) p)) [
        | inl t ↦
            moves (moved loc z g a) b p t
            ∙ ap (λ xs. z.next b xs p) (map-agree (moved loc z g a) g (loc b) (λ x h. stays g a x (apart-skips loc b a x (apart-flip loc a b i) h)))
            ∙ sym (stays (moved loc z g b) a p (apart-skips loc b a p (apart-flip loc a b i) t) ∙ moves g b p t)
        | inr f ↦
            stays (moved loc z g a) b p f
            ∙ elim (cases_Bool (has (loc a) p)) [
              | inl t ↦
                  moves g a p t ∙ ap (λ xs. z.next a xs p) (sym (map-agree (moved loc z g b) g (loc a) (λ x h. stays g b x (apart-skips loc a b x i h))))
                  ∙ sym (moves (moved loc z g b) a p t)
              | inr e ↦ stays g a p e ∙ sym (stays (moved loc z g b) a p e ∙ stays g b p f)
            ]
      ]

  swap-same : (u v : List ℕ) → IsSwap loc u v → global_after loc z u ≡ global_after loc z v
  swap-same u v s =
      let g = walk (moved loc z) z.start s.before in
      ap (global_after loc z) s.from ∙ walk-append (moved loc z) z.start s.before (s.left ∷ s.right ∷ s.after)
      ∙ ap (λ h. walk (moved loc z) h s.after) (fun_ext (λ p. exchange g s.left s.right p s.apart))
      ∙ sym (walk-append (moved loc z) z.start s.before (s.right ∷ s.left ∷ s.after)) ∙ sym (ap (global_after loc z) s.to)

  swaps-same : {u v : List ℕ} → Swaps loc u v → global_after loc z u ≡ global_after loc z v
  swaps-same Done = refl
  swaps-same (Then {u = u} {v = v} {w = w} s rest) = swap-same u v s ∙ swaps-same rest

  -- letters without a participant move nobody
  run-seen : (g : ℕ → ℕ) (w : List ℕ) → walk (moved loc z) g w ≡ walk (moved loc z) g (seen loc w)
  run-seen g [] = refl
  run-seen g (a ∷ w) = elim (cases_Bool (is_some (loc a))) [
    | inl t ↦ run-seen (moved loc z g a) w ∙ ap (walk (moved loc z) g) (sym (seen-on loc a w t))
    | inr f ↦
        ap (λ h. walk (moved loc z) h w) (fun_ext (λ p. stays g a p (none-has (loc a) p f)))
        ∙ run-seen g w ∙ ap (walk (moved loc z) g) (sym (seen-off loc a w f))
  ]

  pub after-seen : (w : List ℕ) → global_after loc z w ≡ global_after loc z (seen loc w)
  after-seen w = run-seen z.start w

-- each of the others has one
have-processes : (loc : ℕ → List ℕ) (w : List ℕ) → All (λ a. (p : ℕ) × IsTrue (has (loc a) p)) (seen loc w)
have-processes loc w = seen-all loc (λ a. Unit {0}) (λ a. (p : ℕ) × IsTrue (has (loc a) p)) (λ a u t. some-has (loc a) t) w (no-claim w)

pub asynchronous_is_closed : AsynchronousIsClosed
asynchronous_is_closed loc n z u v e =
    let apart = equivalent-complete loc (seen loc u) (seen loc v) (have-processes loc u) (have-processes loc v)
    (λ p. sym (seen-equivalent loc u p) ∙ e p ∙ seen-equivalent loc v p) in
    let same = after-seen loc z u ∙ swaps-same loc z apart ∙ sym (after-seen loc z v) in
    (λ p. ap (λ g. g p) same, ap (λ g. z.accepts (map g (range_with_len 0 n))) same)
