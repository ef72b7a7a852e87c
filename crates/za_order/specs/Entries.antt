-- The latest events that processes know of each other: primary, secondary and tertiary information (Mukund and
-- Sohoni 1997).
use Rattle.std.specs.Prelude.{◌≡◌, ℕ, suc, ◌&&◌, [], ◌∷◌, List, Option, Some, option_and_then}
use Rattle.za_alpha.specs.Words.{has}
use Rattle.za_alpha.specs.Search.{greatest}
use Rattle.za_order.specs.Views.{in_view, in_past}

-- the primary entry of p for q: the latest event of q in the view of p after the first n events
abbrev pub primary : (ℕ → List ℕ) → ℕ → ℕ → ℕ → Option ℕ
primary who n p q = greatest (λ i. in_view who n (p ∷ []) i && has (who i) q) n

-- the latest event of r in the past of the event e
abbrev pub last_in_past : (ℕ → List ℕ) → ℕ → ℕ → Option ℕ
last_in_past who e r = greatest (λ i. in_past who e i && has (who i) r) (suc e)

-- the secondary entry of p for q and r: the latest event of r in the past of its primary entry for q
abbrev pub secondary : (ℕ → List ℕ) → ℕ → ℕ → ℕ → ℕ → Option ℕ
secondary who n p q r = option_and_then (λ e. last_in_past who e r) (primary who n p q)

-- the tertiary entry of p for q, r and s: the latest event of s in the past of its secondary entry for q and r
abbrev pub tertiary : (ℕ → List ℕ) → ℕ → ℕ → ℕ → ℕ → ℕ → Option ℕ
tertiary who n p q r s = option_and_then (λ e. last_in_past who e s) (secondary who n p q r)

-- e is a primary entry of p
abbrev pub IsPrimary : (ℕ → List ℕ) → ℕ → ℕ → ℕ → Type 0
IsPrimary who n p e = (q : ℕ) × (primary who n p q ≡ Some e)

-- e is a secondary entry of p
abbrev pub IsSecondary : (ℕ → List ℕ) → ℕ → ℕ → ℕ → Type 0
IsSecondary who n p e = (q : ℕ) × (r : ℕ) × (secondary who n p q r ≡ Some e)

-- e is a tertiary entry of p
abbrev pub IsTertiary : (ℕ → List ℕ) → ℕ → ℕ → ℕ → Type 0
IsTertiary who n p e = (q : ℕ) × (r : ℕ) × (s : ℕ) × (tertiary who n p q r s ≡ Some e)
