-- The newest entry, process by process.
use Rattle.std.proofs.Common.{◌≡◌, ℕ, ◌+◌, ◌≤◌, true, false, ◌⊎◌, inl, inr, max, List, Option, Some, None, refl, sym, ap, subst, ◌∙◌, arith}
use Rattle.std.proofs.lemmas.Bool.{cases_eq}
use Rattle.za_alpha.specs.Words.{has}
use Rattle.za_views.specs.Private.Newest.{later, IsNewest}

-- the later of two is one of them
later-one : (a b : Option ℕ) (g : ℕ) → later a b ≡ Some g → (a ≡ Some g) ⊎ (b ≡ Some g)
later-one None b g h = inr h
later-one (Some i) None g h = inl h
later-one (Some i) (Some j) g h =
    let e : max i j ≡ g = cc in
    elim (cases_eq g i) [
      | inl same ↦ inl (ap (λ v. Some v) (sym same))
      | inr other ↦ inr (ap (λ v. Some v) (let k : j ≡ g = omega arith in k))
    ]

-- and no earlier than the first
later-left : (a b : Option ℕ) (h : ℕ) → a ≡ Some h → (g : ℕ) × (later a b ≡ Some g) × (h ≤ g)
later-left None b h e = cc
later-left (Some i) None h e = (h, e, omega arith)
later-left (Some i) (Some j) h e = let k : i ≡ h = cc in (max i j, refl, omega arith)

-- nor than the second
later-right : (a b : Option ℕ) (h : ℕ) → b ≡ Some h → (g : ℕ) × (later a b ≡ Some g) × (h ≤ g)
later-right None b h e = (h, e, omega arith)
later-right (Some i) None h e = cc
later-right (Some i) (Some j) h e = let k : j ≡ h = cc in (max i j, refl, omega arith)

module _ (ps : List ℕ) (n : ℕ) (entry : ℕ → Option ℕ) (newest : Option ℕ) where
  -- before the first process
  pub newest-init : n ≡ 0 → newest ≡ None → IsNewest ps n entry newest
  newest-init e none = record {
    found = λ g h. let z : None ≡ Some g = sym none ∙ h in cc;
    most = λ s h l. absurd (omega arith);
  }

  -- a process of the list
  pub newest-met : IsNewest ps n entry newest → has ps n ≡ true → IsNewest ps (n + 1) entry (later newest (entry n))
  newest-met r t = record {
    found = λ g h. elim (later-one newest (entry n) g h) [
      | inl a ↦ let f = r.found g a in (f.0, omega arith, f.2, f.3)
      | inr b ↦ (n, omega arith, t, b)
    ];
    most = λ s h l i e. elim (cases_eq s n) [
      | inl same ↦ later-right newest (entry n) h (subst (λ k. entry k ≡ Some h) same e)
      | inr other ↦
          let m = r.most s h (omega arith) i e in
          let k = later-left newest (entry n) m.0 m.1 in (k.0, k.1, omega arith)
    ];
  }

  -- another
  pub newest-apart : IsNewest ps n entry newest → has ps n ≡ false → IsNewest ps (n + 1) entry newest
  newest-apart r f = record {
    found = λ g h. let k = r.found g h in (k.0, omega arith, k.2, k.3);
    most = λ s h l i e. elim (cases_eq s n) [
      | inl same ↦ absurd (let z : has ps n ≡ true = subst (λ k. has ps k ≡ true) same i in cc)
      | inr other ↦ r.most s h (omega arith) i e
    ];
  }
