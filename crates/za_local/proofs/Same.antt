-- What the test tells.
use Rattle.std.proofs.Common.{◌≡◌, ◌↔◌, inl, inr, Bool, true, nat_eq, ◌&&◌, sym, ◌∙◌, subst, eqb-true, IsTrue}
use Rattle.std.proofs.lemmas.Bool.{and_parts, cases_Bool}
use Rattle.std.specs.Cmp.Lexicographic.{pointwise, same_text}
use Rattle.za_local.specs.Locals.{LocalState}
use Rattle.za_local.specs.Same.{same_gossip, same_residues, same_local, same_local_equiv}
use Rattle.za_local.proofs.LocalLaws.{same-locals}
use Rattle.za_gossip.proofs.RowsOf.{same-rows}
use Rattle.za_residue.proofs.Written.{same-functions}

pub same_local-is : (a b : LocalState) → same_local a b ≡ true → a ≡ b
same_local-is a b h =
    let k = and_parts (same_gossip a b) (same_residues a b) h in
    let g = and_parts (pointwise nat_eq a.gossip.primary b.gossip.primary)
    (pointwise nat_eq a.gossip.secondary b.gossip.secondary && pointwise nat_eq a.gossip.tertiary b.gossip.tertiary) k.0 in
    let g2 = and_parts (pointwise nat_eq a.gossip.secondary b.gossip.secondary) (pointwise nat_eq a.gossip.tertiary b.gossip.tertiary) g.1 in
    let r = and_parts (nat_eq a.residues.processes b.residues.processes)
    (nat_eq a.residues.states b.residues.states && pointwise nat_eq a.residues.values b.residues.values) k.1 in
    let r2 = and_parts (nat_eq a.residues.states b.residues.states) (pointwise nat_eq a.residues.values b.residues.values) r.1 in
    same-locals a b
    (same-rows a.gossip b.gossip (same_text a.gossip.primary b.gossip.primary (sym g.0)) (same_text a.gossip.secondary b.gossip.secondary (sym g2.0))
    (same_text a.gossip.tertiary b.gossip.tertiary (sym g2.1)))
    (same-functions a.residues b.residues (eqb-true a.residues.processes b.residues.processes r.0) (eqb-true a.residues.states b.residues.states r2.0)
    (same_text a.residues.values b.residues.values (sym r2.1)))

pub is-same_local : (a b : LocalState) → a ≡ b → same_local a b ≡ true
is-same_local a b e = subst (λ c. same_local a c ≡ true) e (same_local_equiv.refl a)

-- the test is what an exact comparison answers
pub same_local-by : (a b : LocalState) (t : Bool) → (IsTrue t ↔ (a ≡ b)) → t ≡ same_local a b
same_local-by a b t h = elim (cases_Bool t) [
  | inl y ↦ y ∙ sym (is-same_local a b (h.0 y))
  | inr n ↦ n ∙ elim (cases_Bool (same_local a b)) [
    | inl y ↦ absurd (let z = h.1 (same_local-is a b y) in cc)
    | inr f ↦ sym f
  ]
]
