use Rattle.std.proofs.Common.{◌≡◌, ℕ, suc, ◌+◌, ◌<◌, List, ◌∷◌, Option, Some, get_or, drop, length, sym, subst, add-one, drop-cons}
use Rattle.za_expression.specs.declared.sign.Sign.{Sign}
use Rattle.za_expression.specs.Private.Machine.{Stack, bind, step, read_from}

-- what is left after one more sign
pub run_more : (ts : List Sign) (i at : ℕ) (s u : Stack) (d : Sign) (x : Option Stack) → i < length ts → step at s (get_or ts i d) ≡ Some u →
    read_from at s (drop i ts) ≡ x → read_from (at + 1) u (drop (i + 1) ts) ≡ x
run_more ts i at s u d x l h r =
    let k : read_from at s (get_or ts i d ∷ drop (suc i) ts) ≡ x = subst (λ y. read_from at s y ≡ x) (drop-cons ts i d l) r in
    let k3 : read_from (at + 1) u (drop (suc i) ts) ≡ x = subst (λ o. bind o (λ v. read_from (at + 1) v (drop (suc i) ts)) ≡ x) h k in
    subst (λ j. read_from (at + 1) u (drop j ts) ≡ x) (sym (add-one i)) k3
