-- The label of an event from the local state of a participant just after it.
use Rattle.std.proofs.Common.{◌≡◌, ℕ, suc, ◌<◌, ◌≤◌, ◌+◌, ◌*◌, ◌^◌, [], ◌∷◌, ◌++◌, List, true, length, slice_index, ap, ◌∙◌, arith}
use Rattle.std.proofs.lemmas.List.FromFn.{get_or-map-range_with_len}
use Rattle.za_alpha.specs.Words.{has}
use Rattle.za_alpha.specs.Alphabet.{loc_of}
use Rattle.za_order.specs.Views.{participants}
use Rattle.za_order.specs.Entries.{primary}
use Rattle.za_order.specs.Labels.{label, number, number_of, label_bound}
use Rattle.za_order.specs.Locals.{ids}
use Rattle.za_order.proofs.NextLetter.{length-next, seam, at-seam}
use Rattle.za_order.proofs.Steps.{primary_of_participant}
use Rattle.za_dfa.specs.Tables.{CompleteDfa}
use Rattle.za_local.specs.Locals.{local_after}

-- its entry for itself is the event's number
pub own-entry : (d : CompleteDfa) (w : List ℕ) (a x : ℕ) → x < d.alphabet.processes → has (loc_of d.alphabet a) x ≡ true →
    slice_index (local_after d (w ++ a ∷ []) x).gossip.primary x ≡ number_of d.alphabet.processes a
    (label (loc_of d.alphabet) d.alphabet.processes (w ++ a ∷ []) (length w))
own-entry d w a x l h =
    let loc = loc_of d.alphabet in
    let n = d.alphabet.processes in
    let v = w ++ a ∷ [] in
    let t : has (participants loc v (length w)) x ≡ true = at-seam loc w a x ∙ h in
    get_or-map-range_with_len (ids loc n v (length v) x).primary 0 n x x 0 l (omega arith)
    ∙ ap (λ m. number loc n v (primary (participants loc v) m x x)) (length-next w a)
    ∙ ap (number loc n v) (primary_of_participant (participants loc v) (length w) x x t t)
    ∙ ap (λ b. number_of n b (label loc n v (length w))) (seam w a)

times-le : (a b c : ℕ) → a ≤ b → a * c ≤ b * c
times-le a b c h = grind (arith)

pub number-le : (letters n a k : ℕ) → k ≤ n ^ 3 → a < letters → number_of n a k ≤ label_bound letters n
number-le letters n a k hk ha =
    let t = times-le (suc a) letters (n ^ 3 + 1) (omega arith) in
    let e : suc a * (n ^ 3 + 1) ≡ (n ^ 3 + 1) + a * (n ^ 3 + 1) = grind (arith) in omega arith
