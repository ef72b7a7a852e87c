-- What an event makes of the numbers that its participants keep (Mukund and Sohoni 1997). Numbers are tested for
-- equality alone. The participants are a list xs, and `known` are the numbers of each process before the event.
use Rattle.std.specs.Prelude.{ℕ, ◌+◌, ◌^◌, Bool, not, ◌&&◌, ◌||◌, ◌==◌, List, if◌then◌else◌}
use Rattle.std.specs.List.{range_with_len, list_any, list_all}
use Rattle.za_alpha.specs.Words.{has}
use Rattle.za_alpha.specs.Search.{least}
use Rattle.za_order.specs.Labels.{number_of}
use Rattle.za_order.specs.Locals.{Ids}
use Rattle.za_gossip.specs.Rows.{rows_of}

-- whether who has these secondary numbers has the latest event of r that has this number: it is 0, for no event, or is
-- one of those for r
abbrev pub knows_number : ℕ → (ℕ → ℕ → ℕ) → ℕ → ℕ → Bool
knows_number processes secondary r event =
    event == 0 || list_any (λ q. secondary q r == event) (range_with_len 0 processes)

-- the least of xs that knows the latest event of r that each of xs has
abbrev pub newest : ℕ → List ℕ → (ℕ → Ids) → ℕ → ℕ
newest processes xs known r =
    let knows = λ (x y : ℕ). knows_number processes (known x).secondary r ((known y).primary r) in
    least (λ x. has xs x && list_all (knows x) xs) processes

-- the least label whose number with the letter is not among the tertiary numbers of the least of xs
abbrev pub new_label : ℕ → List ℕ → ℕ → (ℕ → Ids) → ℕ
new_label processes xs letter known =
    let own = (rows_of processes (known (least (has xs) processes))).tertiary in
    least (λ k. not (has own (number_of processes letter k))) (processes ^ 3 + 1)

-- the number of the new event for each of xs, and for q else the number that the newest has
abbrev pub new_primary : ℕ → List ℕ → ℕ → (ℕ → Ids) → ℕ → ℕ
new_primary processes xs letter known q =
    if has xs q
    then number_of processes letter (new_label processes xs letter known)
    else (known (newest processes xs known q)).primary q

-- for each of xs the new primary numbers, and for q else the secondary numbers that the newest has
abbrev pub new_secondary : ℕ → List ℕ → ℕ → (ℕ → Ids) → ℕ → ℕ → ℕ
new_secondary processes xs letter known q r =
    if has xs q
    then new_primary processes xs letter known r
    else (known (newest processes xs known q)).secondary q r

-- for each of xs the new secondary numbers, and for q else the tertiary numbers that the newest has
abbrev pub new_tertiary : ℕ → List ℕ → ℕ → (ℕ → Ids) → ℕ → ℕ → ℕ → ℕ
new_tertiary processes xs letter known q r s =
    if has xs q
    then new_secondary processes xs letter known r s
    else (known (newest processes xs known q)).tertiary q r s

-- the numbers that each of xs keeps after the event
abbrev pub updated : ℕ → List ℕ → ℕ → (ℕ → Ids) → Ids
updated processes xs letter known = record {
  primary = new_primary processes xs letter known;
  secondary = new_secondary processes xs letter known;
  tertiary = new_tertiary processes xs letter known;
}
