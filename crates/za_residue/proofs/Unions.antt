-- Joined tests.
use Rattle.std.proofs.Common.{◌≡◌, Bool, true, false, ◌||◌, ◌&&◌, sym, ap, ◌∙◌}

-- one more joined to what was joined, where its test passes, and where it does not
pub joined-in : (all first some test more : Bool) → all ≡ (first || some) → test ≡ true → (all || more) ≡ (first || (some || (test && more)))
joined-in all true some test more h t = ap (λ b. b || more) h
joined-in all false true test more h t = ap (λ b. b || more) h
joined-in all false false test more h t = ap (λ b. b || more) h ∙ ap (λ b. b && more) (sym t)

pub joined-out : (all first some test more : Bool) → all ≡ (first || some) → test ≡ false → all ≡ (first || (some || (test && more)))
joined-out all true some test more h t = h
joined-out all false true test more h t = h
joined-out all false false test more h t = h ∙ ap (λ b. b && more) (sym t)
