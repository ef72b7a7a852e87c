-- The least number that passes a test.
use Rattle.std.proofs.Common.{◌≡◌, ℕ, zero, suc, ◌<◌, ◌≤◌, Bool, true, false, not, inl, inr, List, refl, sym, ap, ◌∙◌, arith, if◌then◌else◌}
use Rattle.std.proofs.lemmas.Bool.{cases_lt}
use Rattle.za_alpha.specs.Words.{has}
use Rattle.za_alpha.specs.Search.{least}
use Rattle.za_alpha.specs.Procs.{IsLeastOf}
use Rattle.za_alpha.proofs.Least.{least-true, least-le}

-- the least of some processes, of which p is one, is no greater
pub least-of-le : (ps : List ℕ) (p x : ℕ) → has ps p ≡ true → IsLeastOf ps x → x ≤ p
least-of-le ps p x t l =
    elim (cases_lt p x) [
      | inl less ↦ absurd (let z : true ≡ false = sym t ∙ l.below p less in cc)
      | inr le ↦ le
    ]

-- and it is the least below any bound above p
pub least-of : (ps : List ℕ) (n p x : ℕ) → p < n → has ps p ≡ true → IsLeastOf ps x → least (λ q. has ps q) n ≡ x
least-of ps n p x b t l =
    let le = least-of-le ps p x t l in
    let most = least-le (λ q. has ps q) n x l.inside in
    elim (cases_lt (least (λ q. has ps q) n) x) [
      | inl less ↦ absurd (let z : true ≡ false = sym (least-true (λ q. has ps q) n (omega arith)) ∙ l.below (least (λ q. has ps q) n) less in cc)
      | inr same ↦ omega arith
    ]

-- tests that agree below the bound have one least
pub least-same : (marks taken : ℕ → Bool) (bound : ℕ) → ((j : ℕ) → j < bound → marks j ≡ taken j) →
    least (λ k. not (marks k)) bound ≡ least (λ k. not (taken k)) bound
least-same marks taken zero same = refl
least-same marks taken (suc n) same =
    let rest = least-same (λ k. marks (suc k)) (λ k. taken (suc k)) n (λ j l. same (suc j) (omega arith)) in
    ap (λ b. if not b then 0 else suc (least (λ k. not (marks (suc k))) n)) (same 0 (omega arith))
    ∙ ap (λ m. if not (taken 0) then 0 else suc m) rest
