-- Entries as options.
use Rattle.std.proofs.Common.{◌≡◌, ℕ, true, ◌⊎◌, inl, inr, Option, Some, None, option_and_then, refl, sym, ap, eqb-true, eq-eqb}
use Rattle.za_order.specs.Locals.{is_event}

-- none, or some event
pub option-cases : (o : Option ℕ) → (o ≡ None) ⊎ ((e : ℕ) × (o ≡ Some e))
option-cases None = inl refl
option-cases (Some e) = inr (e, refl)

-- what is never some is none
pub never-some : (o : Option ℕ) → ((e : ℕ) → o ≡ Some e → ⊥) → o ≡ None
never-some None h = refl
never-some (Some e) h = absurd (h e refl)

-- options that are some event together are equal
pub same-option : (o p : Option ℕ) → ((e : ℕ) → o ≡ Some e → p ≡ Some e) → ((e : ℕ) → p ≡ Some e → o ≡ Some e) → o ≡ p
same-option None None f g = refl
same-option None (Some e) f g = g e refl
same-option (Some e) p f g = sym (f e refl)

-- what a chain of two lookups found
pub then-some : (f : ℕ → Option ℕ) (o : Option ℕ) (e : ℕ) → option_and_then f o ≡ Some e → (g : ℕ) × (o ≡ Some g) × (f g ≡ Some e)
then-some f None e h = cc
then-some f (Some g) e h = (g, refl, h)

-- and what one finds
pub some-then : (f : ℕ → Option ℕ) (o : Option ℕ) (g e : ℕ) → o ≡ Some g → f g ≡ Some e → option_and_then f o ≡ Some e
some-then f None g e h k = cc
some-then f (Some x) g e h k = let s : x ≡ g = cc in rw s k

-- an entry is the event that passes as it
pub is_event-some : (o : Option ℕ) (e : ℕ) → is_event o e ≡ true → o ≡ Some e
is_event-some None e h = cc
is_event-some (Some i) e h = ap (λ v. Some v) (eqb-true i e h)

-- and back
pub some-is_event : (o : Option ℕ) (e : ℕ) → o ≡ Some e → is_event o e ≡ true
some-is_event None e h = cc
some-is_event (Some i) e h = let s : i ≡ e = cc in eq-eqb i e s
