-- What marked events give: the entries of each process.
use Rattle.std.proofs.Common.{◌≡◌, ℕ, ◌<◌, List, length, Option, Some, None, option_and_then, IfSome, refl, sym, ap, subst, ◌∙◌, arith}
use Rattle.za_order.specs.Views.{participants}
use Rattle.za_order.specs.Entries.{primary, last_in_past, secondary, tertiary}
use Rattle.za_order.proofs.Chains.{chain-le}
use Rattle.za_order.proofs.Entries.{primary-sound, primary-below, secondary-sound, secondary-below, last_in_past-sound}
use Rattle.za_views.specs.declared.events.Event.{Event}
use Rattle.za_views.specs.Private.Events.{entry, known, known_by, event_at, AreEvents}
use Rattle.za_views.specs.Private.Kept.{AreKept}
use Rattle.za_order.proofs.Prefixes.{then-same}
use Rattle.za_views.proofs.Knowledge.{primary-through_own}

-- a fact for one variant
pub if-some : (P : ℕ → Type 0) (o : Option ℕ) → ((e : ℕ) → o ≡ Some e → P e) → IfSome o P
if-some P None h = tt
if-some P (Some e) h = h e refl

module _ {loc : ℕ → List ℕ} {processes : ℕ} {w : List ℕ} {n : ℕ} {events : List Event} {own : List (Option ℕ)} (marked : AreKept loc processes w n events own)
  where
    -- one more step from entries that have happened
    step-is : (q : ℕ) (o : Option ℕ) → q < processes → ((e : ℕ) → o ≡ Some e → e < n) →
        option_and_then (λ e. known events e q) o ≡ option_and_then (λ e. last_in_past (participants loc w) e q) o
    step-is q o l below = then-same (λ e. known events e q) (λ e. last_in_past (participants loc w) e q) o (λ e h. marked.pasts e q (below e h) l)

    -- primary entries have happened
    pub first-below : (p q e : ℕ) → primary (participants loc w) n p q ≡ Some e → e < n
    first-below p q e h = primary-below (participants loc w) n p q e (primary-sound (participants loc w) n p q e h)

    -- and secondary entries
    pub second-below : (p q r e : ℕ) → secondary (participants loc w) n p q r ≡ Some e → e < n
    second-below p q r e h = secondary-below (participants loc w) n p q r e (secondary-sound (participants loc w) n p q r e h)

    -- what a process knows is its primary entry
    pub first-is : (p q : ℕ) → p < processes → q < processes → known_by events own q p ≡ primary (participants loc w) n p q
    first-is p q lp lq =
        ap (option_and_then (λ e. known events e q)) (marked.last p lp)
        ∙ step-is q (primary (participants loc w) n p p) lq (first-below p p)
        ∙ sym (primary-through_own (participants loc w) n p q)

    -- one step more is a secondary entry
    pub second-is : (p q r : ℕ) → r < processes →
        option_and_then (λ e. known events e r) (primary (participants loc w) n p q) ≡ secondary (participants loc w) n p q r
    second-is p q r l = step-is r (primary (participants loc w) n p q) l (first-below p q)

    -- and another a tertiary entry
    pub third-is : (p q r s : ℕ) → s < processes → option_and_then (λ e. known events e s) (secondary (participants loc w) n p q r)
        ≡ tertiary (participants loc w) n p q r s
    third-is p q r s l = step-is s (secondary (participants loc w) n p q r) l (second-below p q r)

    -- own last events have happened
    pub own-below : AreEvents n processes own
    own-below p l = if-some (λ e. e < n) (entry own p) (λ e h. first-below p p e (sym (marked.last p l) ∙ h))

    -- and what an event knows
    pub past-below : (e : ℕ) → e < n → AreEvents n processes (event_at events e).past
    past-below e le q lq =
        if-some (λ i. i < n) (known events e q) (λ i h.
        let k = last_in_past-sound (participants loc w) e q i (sym (marked.pasts e q le lq) ∙ h) in
        let c = chain-le (participants loc w) k.chain in omega arith)

    -- an entry that has happened is one of the events
    among : (o : Option ℕ) → ((e : ℕ) → o ≡ Some e → e < n) → IfSome o (λ e. e < length events)
    among o below = if-some (λ e. e < length events) o (λ e h. let b = below e h in let c = marked.count in omega arith)

    -- as are own last events
    pub own-among : AreEvents (length events) processes own
    own-among p l = subst (λ m. IfSome (entry own p) (λ e. e < m)) (sym marked.count) (own-below p l)

    -- primary entries
    pub first-among : (p q : ℕ) (o : Option ℕ) → o ≡ primary (participants loc w) n p q → IfSome o (λ e. e < length events)
    first-among p q o is = among o (λ e h. first-below p q e (sym is ∙ h))

    -- and secondary entries
    pub second-among : (p q r : ℕ) (o : Option ℕ) → o ≡ secondary (participants loc w) n p q r → IfSome o (λ e. e < length events)
    second-among p q r o is = among o (λ e h. second-below p q r e (sym is ∙ h))
