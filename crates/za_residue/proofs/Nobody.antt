-- Masks of empty sets.
use Rattle.std.proofs.Common.{◌≡◌, ℕ, zero, suc, false, [], get_or, replicate, refl, ap, ◌∙◌}
use Rattle.za_alpha.specs.Words.{has}
use Rattle.za_alpha.specs.Procs.{members, no_process}
use Rattle.za_alpha.proofs.Members.{members-zero}

one : (m r : ℕ) → get_or (replicate m no_process) r no_process ≡ no_process
one zero r = refl
one (suc m) zero = refl
one (suc m) (suc r) = one m r

two : (k m i r : ℕ) → get_or (get_or (replicate k (replicate m no_process)) i []) r no_process ≡ no_process
two zero m i r = refl
two (suc k) m zero r = one m r
two (suc k) m (suc i) r = two k m i r

-- nobody is in them
pub nobody-earlier : (m i s : ℕ) → has (members (get_or (replicate m no_process) i no_process)) s ≡ false
nobody-earlier m i s = ap (λ o. has (members o) s) (one m i) ∙ ap (λ ps. has ps s) members-zero

pub nobody-under : (k m i r s : ℕ) → has (members (get_or (get_or (replicate k (replicate m no_process)) i []) r no_process)) s ≡ false
nobody-under k m i r s = ap (λ o. has (members o) s) (two k m i r) ∙ ap (λ ps. has ps s) members-zero
