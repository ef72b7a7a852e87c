-- What a circle knows whose events have written readings.
use Rattle.std.proofs.Common.{◌≡◌, ℕ, ◌<◌, List, [], ◌∷◌, length, map, slice_index, Option, Some, None, refl, ap, ◌∙◌, arith}
use Rattle.std.specs.Prelude.{codes}
use Rattle.std.specs.List.{range_with_len}
use Rattle.std.specs.Option.{option_map}
use Rattle.std.proofs.lemmas.List.FromFn.{fill_by_all, get_or-map-range_with_len, length-map-range_with_len}
use Rattle.za_alpha.specs.Alphabet.{DistributedAlphabet, loc_of}
use Rattle.za_order.specs.Views.{participants}
use Rattle.za_order.specs.Entries.{primary}
use Rattle.za_order.proofs.Entries.{primary-below, primary-sound}
use Rattle.za_text.specs.Printed.{text_of}
use Rattle.za_text.specs.ProcessNames.{name_of}
use Rattle.za_payload.specs.Knowledge.{news, reading_of}
use Rattle.za_payload.specs.Circles.{CircleState, known_in}
use Rattle.za_news.specs.Readings.{list_of}
use Rattle.za_news.specs.Texts.{known_word, line_of_known}
use Rattle.za_news.specs.Private.Weaving.{IsNewsAfter}

-- functions that agree below n make the same list
map-agree : {X : Type 0} (f g : ℕ → X) (n : ℕ) (d : X) → ((k : ℕ) → k < n → f k ≡ g k) → map f (range_with_len 0 n) ≡ map g (range_with_len 0 n)
map-agree f g n d h =
    fill_by_all g (map f (range_with_len 0 n)) n d (length-map-range_with_len f 0 n)
    (λ k l. get_or-map-range_with_len f 0 n k k d l (omega arith) ∙ h k l)

option-agree : (f g : ℕ → ℕ) (o : Option ℕ) → ((e : ℕ) → o ≡ Some e → f e ≡ g e) → option_map f o ≡ option_map g o
option-agree f g None h = refl
option-agree f g (Some e) h = ap (λ x. Some x) (h e refl)

module _ (alphabet : DistributedAlphabet) (readings : List (List ℕ)) (w : List ℕ) (circle : CircleState) (h : IsNewsAfter alphabet readings w circle) where
  abbrev who : ℕ → List ℕ
  who = participants (loc_of alphabet) w

  abbrev told : ℕ → ℕ → Option ℕ
  told p q = news (loc_of alphabet) alphabet.processes (list_of readings) w p q

  known-is : (p q : ℕ) → p < alphabet.processes → q < alphabet.processes → known_in circle.known p q ≡ told p q
  known-is p q lp lq =
      h.after.known p q lp lq
      ∙ option-agree (slice_index h.values) (reading_of (loc_of alphabet) alphabet.processes (list_of readings) w) (primary who (length w) p q)
      (λ e found. h.written e (primary-below who (length w) p q e (primary-sound who (length w) p q e found)))

  -- and so the lines of all processes
  pub lines_are : (names : List (List ℕ)) (n : ℕ) → n ≡ alphabet.processes →
      text_of (map (λ p. line_of_known (name_of names p) n (known_in circle.known p)) (range_with_len 0 n))
      ≡ text_of (map (λ p. line_of_known (name_of names p) alphabet.processes (told p)) (range_with_len 0 alphabet.processes))
  lines_are names n size =
      ap text_of (map-agree (λ p. line_of_known (name_of names p) n (known_in circle.known p)) (λ p. line_of_known (name_of names p) n (told p)) n []
      (λ p lp. ap (λ ws. codes "known" ∷ name_of names p ∷ ws)
      (map-agree (λ q. known_word (known_in circle.known p q)) (λ q. known_word (told p q)) n []
      (λ q lq. ap known_word (known-is p q (omega arith) (omega arith))))))
      ∙ ap (λ m. text_of (map (λ p. line_of_known (name_of names p) m (told p)) (range_with_len 0 m))) size
