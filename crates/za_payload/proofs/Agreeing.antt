-- Equivalent words give equal knowledge.
use Rattle.std.proofs.Common.{◌≡◌, ℕ, ◌<◌, true, inl, inr, List, length, slice_index, Some, None, sym, ap, ◌∙◌, arith}
use Rattle.std.specs.Option.{option_map}
use Rattle.za_alpha.specs.Words.{has, IsAlphabet, IsWord, AreEquivalent}
use Rattle.za_alpha.specs.Search.{least}
use Rattle.za_alpha.proofs.Least.{least-true, least-le}
use Rattle.za_order.specs.Views.{participants}
use Rattle.za_order.specs.Words.{IsMatch}
use Rattle.za_order.specs.Entries.{primary}
use Rattle.za_order.specs.Labels.{least_participant}
use Rattle.za_order.proofs.Options.{option-cases}
use Rattle.za_order.proofs.Participants.{word-over}
use Rattle.za_order.proofs.Matches.{pair-rank, from-match, to-match}
use Rattle.za_order.proofs.Equivalent.{same-primary, flip-equivalent}
use Rattle.za_payload.specs.Knowledge.{events_before, reading_of}
use Rattle.za_payload.specs.Laws.{KnowledgeAgrees, NewsAgrees}

pub knowledge_agrees : KnowledgeAgrees
knowledge_agrees loc u v first second p q e same =
    elim (option-cases (primary (participants loc u) (length u) p q)) [
      | inl none ↦ elim (option-cases (primary (participants loc v) (length v) p q)) [
        | inl other ↦ ap (option_map first) none ∙ sym (ap (option_map second) other)
        | inr one ↦ absurd (let m = same-primary loc v u p q one.0 (flip-equivalent loc u v e) one.1 in let c : None ≡ Some m.0 = sym none ∙ m.2 in cc)
      ]
      | inr one ↦
          let m = same-primary loc u v p q one.0 e one.1 in
          ap (option_map first) one.1 ∙ ap (λ x. Some x) (same one.0 m.0 (to-match u v one.0 m.0 m.1)) ∙ sym (ap (option_map second) m.2)
    ]

module _ (loc : ℕ → List ℕ) (letters processes : ℕ) (readings : ℕ → List ℕ) (u v : List ℕ)
    (al : IsAlphabet loc letters processes) (word : IsWord letters u) (e : AreEquivalent loc u v) where
  -- the least participant of an event is one
  least-takes : (i : ℕ) → i < length u → has (participants loc u i) (least_participant loc processes u i) ≡ true
  least-takes i l =
      let over = word-over loc letters processes u al word in
      let p = over.some i l in
      let below = over.below i p.0 l p.1 in
      let le = least-le (λ x. has (participants loc u i) x) processes p.0 p.1 in
      least-true (λ x. has (participants loc u i) x) processes (omega arith)

  -- events that match write the same reading
  reading-same : (i j : ℕ) → IsMatch u v i j → reading_of loc processes readings u i ≡ reading_of loc processes readings v j
  reading-same i j match =
      let m = from-match u v i j match in
      let p = least_participant loc processes u i in
      let same : p ≡ least_participant loc processes v j = ap (λ a. least (λ x. has (loc a) x) processes) m.letter in
      ap (slice_index (readings p)) (pair-rank loc u v i j p e m (least-takes i m.in_u)) ∙ ap (λ x. slice_index (readings x) (events_before loc v x j)) same

pub news_agrees : NewsAgrees
news_agrees loc letters processes readings u v p q al word e =
    knowledge_agrees loc u v (reading_of loc processes readings u) (reading_of loc processes readings v) p q e
    (reading-same loc letters processes readings u v al word e)
