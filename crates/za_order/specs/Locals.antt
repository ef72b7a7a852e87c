-- What a process keeps: the numbers of its entries (Mukund and Sohoni 1997), and the parts of its view that the pasts
-- of some entries do not cover (Mukund 2012). The participants of an event are a list xs, and a set of processes is a
-- test.
use Rattle.std.specs.Prelude.{ℕ, Bool, true, false, not, ◌&&◌, List, [], ◌∷◌, ◌==◌, Option, Some, None}
use Rattle.std.specs.List.{range_with_len, list_any, list_all}
use Rattle.std.specs.Option.{option_map_or}
use Rattle.za_alpha.specs.Words.{has}
use Rattle.za_alpha.specs.Search.{least}
use Rattle.za_order.specs.Views.{participants, in_view, in_past}
use Rattle.za_order.specs.Entries.{primary, secondary, tertiary}
use Rattle.za_order.specs.Words.{subword}
use Rattle.za_order.specs.Labels.{number}

-- a number for each entry, by the processes that it is of
pub record Ids : Type 0 where
  pub primary : ℕ → ℕ
  pub secondary : ℕ → ℕ → ℕ
  pub tertiary : ℕ → ℕ → ℕ → ℕ

-- the numbers of the entries of p after the first n events
abbrev pub ids : (ℕ → List ℕ) → ℕ → List ℕ → ℕ → ℕ → Ids
ids loc processes w n p = record {
  primary = λ q. number loc processes w (primary (participants loc w) n p q);
  secondary = λ q r. number loc processes w (secondary (participants loc w) n p q r);
  tertiary = λ q r s. number loc processes w (tertiary (participants loc w) n p q r s);
}

-- whether the entry is the event e
abbrev pub is_event : Option ℕ → ℕ → Bool
is_event None e = false
is_event (Some i) e = i == e

-- whether the primary entry of x for s is an event, and a primary entry of one of the processes ps too
abbrev pub earlier : (ℕ → List ℕ) → ℕ → ℕ → List ℕ → ℕ → ℕ → Bool
earlier who processes n ps x s =
    let range = range_with_len 0 processes in
    option_map_or (λ e. list_any (λ y. list_any (λ t. is_event (primary who n y t) e) range) ps)
    (primary who n x s) false

-- whether the view of x has each event that is the primary entry of one of xs for r
abbrev pub knows_latest : (ℕ → List ℕ) → ℕ → List ℕ → ℕ → ℕ → Bool
knows_latest who n xs r x =
    list_all (λ y. option_map_or (λ e. in_view who n (x ∷ []) e) (primary who n y r) true) xs

-- the least of xs whose view has them: who has the latest news of r
abbrev pub best : (ℕ → List ℕ) → ℕ → ℕ → List ℕ → ℕ → ℕ
best who processes n xs r = least (λ x. has xs x && knows_latest who n xs r x) processes

-- whether the primary entry of x for s is an event, and a secondary entry for r, which is not of xs, of the best of xs
abbrev pub under : (ℕ → List ℕ) → ℕ → ℕ → List ℕ → ℕ → ℕ → ℕ → Bool
under who processes n xs x r s =
    let range = range_with_len 0 processes in
    let owner = best who processes n xs r in
    not (has xs r)
    && option_map_or (λ e. list_any (λ t. is_event (secondary who n owner r t) e) range) (primary who n x s) false

-- whether the event i is in the past of a primary entry of p for a process of the set
abbrev pub is_covered : (ℕ → List ℕ) → ℕ → ℕ → ℕ → (ℕ → Bool) → ℕ → Bool
is_covered who processes n p set i =
    let range = range_with_len 0 processes in
    list_any (λ y. set y && option_map_or (λ e. in_past who e i) (primary who n p y) false) range

-- whether the event i is in the view of p and in none of those pasts
abbrev pub in_residue : (ℕ → List ℕ) → ℕ → ℕ → ℕ → (ℕ → Bool) → ℕ → Bool
in_residue who processes n p set i = in_view who n (p ∷ []) i && not (is_covered who processes n p set i)

-- the subword of those events: the residue of p for the set is what it does to states
abbrev pub residue_word : (ℕ → List ℕ) → ℕ → List ℕ → ℕ → ℕ → (ℕ → Bool) → List ℕ
residue_word loc processes w n p set = subword w (in_residue (participants loc w) processes n p set) n
