use Rattle.std.proofs.Common.{◌≡◌, ℕ, ◌<◌, ◌≤◌, ◌↔◌, ◌++◌, List, [], length, take, ◌∙◌, sym, ap, subst, length-append, arith}
use Rattle.std.proofs.Common.{Option, Some, None, Result, Ok, Err, IsErr, IfOk, IfSome, IfNone}
use Rattle.std.proofs.lemmas.List.{length-take-le}
use Rattle.std.specs.Result.{result_ok}
use Rattle.std.specs.Io.{ReadsAtMost}
use Rattle.std.specs.Io.KnownBytes.{ReadConsumes}
use Rattle.za_base.specs.declared.source.Failed.{Failed}
use Rattle.za_base.proofs.std_ends.StdSourceSource.read.Goals as goal

-- a read gives no byte exactly where none is left
none_left : (n : ℕ) (left rest into : List ℕ) → 0 < length into → n ≤ length into → left ≡ take n into ++ rest → (n ≡ 0 → 0 < length into → rest ≡ [])
    → (n ≡ 0) ↔ (left ≡ [])
none_left n left rest into long most front end = (
  λ zero. front ∙ ap (λ k. take k into ++ rest) zero ∙ end zero long,
  λ none. omega (arith, ap length (sym front ∙ none), length-append (take n into) rest, length-take-le n into most),
)

end_of : {E : Type 0} (a b : Option (List ℕ)) (r : Result ℕ E) (q : Result ℕ Failed) (into : List ℕ)
    → 0 < length into → ReadsAtMost r into → ReadConsumes a b r into
    → IfSome (result_ok r) (λ n. q ≡ Ok n) → IfNone (result_ok r) (IsErr q) → IfOk q (λ n. IfSome a (λ xs. (n ≡ 0) ↔ (xs ≡ [])))
end_of None b (Ok n) (Ok m) into long most bytes same err = tt
end_of (Some xs) None (Ok n) (Ok m) into long most bytes same err = absurd bytes.0
end_of (Some xs) (Some ys) (Ok n) (Ok m) into long most bytes same err =
    let e : n ≡ m = cc in subst (λ k. (k ≡ 0) ↔ (xs ≡ [])) e (none_left n xs ys into long most.0 bytes.0 bytes.1)
end_of a b (Ok n) (Err x) into long most bytes same err = tt
end_of a b (Err e) (Ok m) into long most bytes same err = absurd (cc)
end_of a b (Err e) (Err x) into long most bytes same err = tt

pub returns-clause-end : goal.returns-clause-end
returns-clause-end g c =
    let long : 0 < length c.read.new.buf = omega (arith, c.read.auto.buf) in
    end_of _ _ c.read.result c.counted.result c.read.new.buf long c.read.ensures.bound c.read.ensures.bytes
    (subst (λ (o : Option ℕ). IfSome o (λ n. c.counted.result ≡ Ok n)) c.ok.ensures.value c.counted.ensures.moved)
    (subst (λ (o : Option ℕ). IfNone o (IsErr c.counted.result)) c.ok.ensures.value c.counted.ensures.failed)
