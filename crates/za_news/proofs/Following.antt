-- A circle whose events have written readings, and one event more.
use Rattle.std.proofs.Common.{◌≡◌, ℕ, ◌<◌, inl, inr, List, [], ◌∷◌, ◌++◌, length, take, slice_index, sym, ap, ◌∙◌, arith, length-append}
use Rattle.std.proofs.Math.Seq.{get_or-append_seam, take-append_seam}
use Rattle.std.proofs.lemmas.Bool.{cases_lt}
use Rattle.std.proofs.lemmas.List.{get_or_append_left, take-append-le}
use Rattle.za_alpha.specs.Words.{has, projection}
use Rattle.za_alpha.specs.Search.{least}
use Rattle.za_alpha.specs.Alphabet.{DistributedAlphabet, loc_of}
use Rattle.za_order.proofs.NextLetter.{agrees, seam}
use Rattle.za_payload.specs.Knowledge.{reading_of}
use Rattle.za_payload.specs.Circles.{CircleState, IsCircleAfter}
use Rattle.za_news.specs.Readings.{list_of}
use Rattle.za_news.specs.Private.Weaving.{IsNewsAfter}

-- the reading of an event of this letter after this word
abbrev pub next_reading : (ℕ → List ℕ) → ℕ → List (List ℕ) → ℕ → List ℕ → ℕ
next_reading loc processes readings a w =
    let p = least (λ q. has (loc a) q) processes in slice_index (list_of readings p) (length (projection loc p w))

module _ (loc : ℕ → List ℕ) (processes : ℕ) (readings : List (List ℕ)) (w : List ℕ) (a : ℕ) where
  abbrev reads : List ℕ → ℕ → ℕ
  reads u i = reading_of loc processes (list_of readings) u i

  reads-before : (i : ℕ) → i < length w → reads (w ++ a ∷ []) i ≡ reads w i
  reads-before i l =
      ap (λ b. next_reading loc processes readings b (take i (w ++ a ∷ []))) (agrees w a i l)
      ∙ ap (next_reading loc processes readings (slice_index w i)) (take-append-le i w (a ∷ []) (omega arith))

  reads-last : reads (w ++ a ∷ []) (length w) ≡ next_reading loc processes readings a w
  reads-last =
      ap (λ b. next_reading loc processes readings b (take (length w) (w ++ a ∷ []))) (seam w a)
      ∙ ap (next_reading loc processes readings a) (take-append_seam w (a ∷ []))

pub news_after : (alphabet : DistributedAlphabet) (readings : List (List ℕ)) (w : List ℕ) (a value : ℕ) (old new : CircleState)
    (h : IsNewsAfter alphabet readings w old) → value ≡ next_reading (loc_of alphabet) alphabet.processes readings a w
    → IsCircleAfter alphabet (w ++ a ∷ []) (h.values ++ value ∷ []) new → IsNewsAfter alphabet readings (w ++ a ∷ []) new
news_after alphabet readings w a value old new h reads after =
    let loc = loc_of alphabet in
    let n = alphabet.processes in
    let long = length-append w (a ∷ []) in
    let each = h.after.one_each in
    record {
      values = h.values ++ value ∷ [];
      after = after;
      written = λ i l. elim (cases_lt i (length w)) [
        | inl before ↦
            get_or_append_left h.values (value ∷ []) 0 i (omega arith) ∙ h.written i before ∙ sym (reads-before loc n readings w a i before)
        | inr ge ↦
            let last : i ≡ length w = omega arith in
            ap (slice_index (h.values ++ value ∷ [])) (last ∙ sym each) ∙ get_or-append_seam h.values value [] 0 ∙ reads
            ∙ sym (reads-last loc n readings w a) ∙ ap (reading_of loc n (list_of readings) (w ++ a ∷ [])) (sym last)
      ];
    }
