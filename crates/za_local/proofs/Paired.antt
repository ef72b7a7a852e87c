-- Rows and residues side by side.
use Rattle.std.proofs.Common.{◌≡◌, ℕ, zero, suc, ◌<◌, Some, get_or, slice_get, List, [], ◌∷◌, ◌++◌, length, refl, ap, ◌∙◌, arith}
use Rattle.za_gossip.specs.Rows.{Rows}
use Rattle.za_residue.specs.Functions.{Functions}
use Rattle.za_local.specs.Locals.{LocalState}
use Rattle.za_local.specs.Benches.{LocalStates, paired, gossips_of, residues_of}

pub gossips-paired : (gossips : List Rows) (residues : List Functions) → length gossips ≡ length residues → gossips_of (paired gossips residues) ≡ gossips
gossips-paired [] residues e = refl
gossips-paired (g ∷ gossips) [] e = absurd (omega arith)
gossips-paired (g ∷ gossips) (r ∷ residues) e = ap (λ gs. g ∷ gs) (gossips-paired gossips residues (omega arith))

pub residues-paired : (gossips : List Rows) (residues : List Functions) → length gossips ≡ length residues → residues_of (paired gossips residues) ≡ residues
residues-paired [] [] e = refl
residues-paired [] (r ∷ residues) e = absurd (omega arith)
residues-paired (g ∷ gossips) [] e = absurd (omega arith)
residues-paired (g ∷ gossips) (r ∷ residues) e = ap (λ rs. r ∷ rs) (residues-paired gossips residues (omega arith))

pub length-paired : (gossips : List Rows) (residues : List Functions) → length gossips ≡ length residues → length (paired gossips residues) ≡ length gossips
length-paired [] residues e = refl
length-paired (g ∷ gossips) [] e = absurd (omega arith)
length-paired (g ∷ gossips) (r ∷ residues) e = let rest = length-paired gossips residues (omega arith) in omega arith

-- one of each more
pub paired-more : (gossips : List Rows) (residues : List Functions) (g : Rows) (r : Functions) → length gossips ≡ length residues →
    paired (gossips ++ g ∷ []) (residues ++ r ∷ []) ≡ paired gossips residues ++ record { gossip = g; residues = r } ∷ []
paired-more [] [] g r e = refl
paired-more [] (q ∷ residues) g r e = absurd (omega arith)
paired-more (h ∷ gossips) [] g r e = absurd (omega arith)
paired-more (h ∷ gossips) (q ∷ residues) g r e = ap (λ locals. record { gossip = h; residues = q } ∷ locals) (paired-more gossips residues g r (omega arith))

-- one of them
pub paired-get : (gossips : List Rows) (residues : List Functions) (i : ℕ) (g : Rows) (r : Functions) → length gossips ≡ length residues → i < length gossips →
    slice_get (paired gossips residues) i ≡ Some (record { gossip = get_or gossips i g; residues = get_or residues i r })
paired-get [] residues i g r e l = absurd (omega arith)
paired-get (h ∷ gossips) [] i g r e l = absurd (omega arith)
paired-get (h ∷ gossips) (q ∷ residues) zero g r e l = refl
paired-get (h ∷ gossips) (q ∷ residues) (suc i) g r e l = paired-get gossips residues i g r (omega arith) (omega arith)

-- benches are the same by their parts
pub same-benches : (a b : LocalStates) → a.processes ≡ b.processes → a.states ≡ b.states → a.locals ≡ b.locals → a ≡ b
same-benches a b n k l =
    let made : ℕ → ℕ → List LocalState → LocalStates = λ processes states locals. record { processes = processes; states = states; locals = locals } in
    ap (λ v. made v a.states a.locals) n ∙ ap (λ v. made b.processes v a.locals) k ∙ ap (made b.processes b.states) l
